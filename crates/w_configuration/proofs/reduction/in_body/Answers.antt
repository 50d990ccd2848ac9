use Rattle.w_configuration.proofs.reduction.in_body.Goals as goal

pub returns-then-switches-clause-reduces : goal.returns-then-switches-clause-reduces
returns-then-switches-clause-reduces g c = c.switching_at.ensures.reduces (g.O.Sink.held c.args.out.now)
