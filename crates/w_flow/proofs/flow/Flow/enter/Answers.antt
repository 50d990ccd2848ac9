use Rattle.w_flow.proofs.flow.Flow.enter.Goals as goal

pub returns-then-is_empty-clause-inner_words : goal.returns-then-is_empty-clause-inner_words
returns-then-is_empty-clause-inner_words c = c.new.ensures.words c.args.classes.now
