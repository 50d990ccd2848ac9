use Rattle.std.proofs.Common.{Some, sym, ap, ◌∙◌}
use Rattle.w_segment.specs.Shape.{Shape}
use Rattle.w_configuration.specs.declared.stop.RunStop.TheVariants as run_stop
use Rattle.w_configuration.proofs.LeftHandles.{one_left, reduces_ended}
use Rattle.w_configuration.proofs.PartsOfRuns.{stopped_as}
use Rattle.w_configuration.proofs.reduction.reduce.Goals as goal

pub returns-then-handles-eq0-clause-reduces : goal.returns-then-handles-eq0-clause-reduces
returns-then-handles-eq0-clause-reduces g c =
    stopped_as c.args.program.source.now c.args.configuration.now c.args.configuration.now (g.O.Sink.held c.args.out.now) (g.O.Sink.held c.args.out.now)
    (Some run_stop.Ended) c.set_stop.new.stop (sym c.set_stop.ensures.stop)
    (reduces_ended (one_left c.requires.stands c.handles.result c.handles.ensures.count c.if-handles-eq0.true)
    (ap (λ (s : Shape). s.stage) (sym c.stack.ensures.value) ∙ sym c.in-Values.ensures.value))
