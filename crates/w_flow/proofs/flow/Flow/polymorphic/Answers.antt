use Rattle.w_flow.proofs.flow.Flow.polymorphic.Goals as goal

pub returns-clause-words : goal.returns-clause-words
returns-clause-words c = c.leave.ensures.words c.args.classes.now
