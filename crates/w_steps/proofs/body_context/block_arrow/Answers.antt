use Rattle.w_steps.proofs.body_context.block_arrow.Goals as goal

pub returns-then-has_type-clause-ready : goal.returns-then-has_type-clause-ready
returns-then-has_type-clause-ready c = c.results_alone-then-has_type.ensures.ready _ (c.bare-then-has_type.ensures.ready _)
