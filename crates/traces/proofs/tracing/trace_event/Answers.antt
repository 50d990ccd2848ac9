use Rattle.std.proofs.Common.{Some, Err, ap, arith}
use Rattle.w_trace.specs.Events.{Events}
use Rattle.traces.specs.Tracing.{event_lines}
use Rattle.traces.proofs.EventsFollowed.{goes_within}
use Rattle.traces.proofs.TracesWritten.{stops_so, stops_out, begun_yet, begun_more}
use Rattle.traces.proofs.tracing.trace_event.Goals as goal

pub returns-in_err-goes-clause-err : goal.returns-in_err-goes-clause-err
returns-in_err-goes-clause-err g c =
    stops_out _ _ c.from_residual.result c.from_residual.ensures.1
    (λ p s t begins before h. begun_yet p s t c.args.machine.now c.args.steps before (g.O.Sink.held c.args.out.now) (Some c.args.kept.now.bytes.items) (let less = c.requires.fewer in omega (arith, less)) h)

pub returns-in-Err-clause-err : goal.returns-in-Err-clause-err
returns-in-Err-clause-err g c =
    stops_so c.in-Err.fault c.stop_of.result c.stop_of.ensures.failed c.stop_of.ensures.memory (λ e. c.in-Err.ensures.cause.failed (ap Err e))
    (λ p s t begins before h.
    begun_more p s t c.args.machine.now c.go_to_event.new.machine c.in_ok-goes.event (c.in_ok-goes.ensures.event p s t begins) before (g.O.Sink.held c.keep_if_some.new.out)
    c.args.steps (goes_within c.in_ok-goes.goes c.args.steps c.args.machine.now c.go_to_event.new.machine c.in_ok-goes.ensures.goes)
    (c.in-Err.ensures.err (event_lines (Events p s t c.args.machine.now.taken)) before h.written))
