use Rattle.w_steps.proofs.steps.reference.reference_step.Goals as goal

pub returns-in-IsNull-clause-words : goal.returns-in-IsNull-clause-words
returns-in-IsNull-clause-words c = c.tests_null.ensures.words c.args.cx.now.classes.now
