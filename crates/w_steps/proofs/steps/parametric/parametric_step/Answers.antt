use Rattle.w_steps.proofs.steps.parametric.parametric_step.Goals as goal

pub returns-in-Drop-clause-words : goal.returns-in-Drop-clause-words
returns-in-Drop-clause-words c = c.drops.ensures.words c.args.cx.now.classes.now
