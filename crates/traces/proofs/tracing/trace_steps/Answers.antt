use Rattle.std.proofs.Common.{sym, subst, arith}
use Rattle.w_machine.specs.Beginning.{Origin, Begins}
use Rattle.traces.proofs.TracesWritten.{stops_on, trace_begun, rose_later}
use Rattle.traces.proofs.tracing.trace_steps.Goals as goal

pub returns-in_err-trace_event-clause-err : goal.returns-in_err-trace_event-clause-err
returns-in_err-trace_event-clause-err g c =
    let here = c.loop-machine.invariant in
    stops_on _ _ c.from_residual.result c.in_err-trace_event.field-0.0 c.from_residual.ensures.1 c.in_err-trace_event.ensures.err
    (λ rose. rose_later (g.O.Sink.faults c.args.out.now) (g.O.Sink.faults c.loop-machine.out) (g.O.Sink.faults c.trace_event.new.out) here.later rose)
    (λ begun p s t begins.
    trace_begun p s t (g.O.Sink.held c.args.out.now) (g.O.Sink.held c.trace_event.new.out) c.args.steps c.args.steps (omega arith)
    (begun p s t (subst (λ (o : Origin). Begins o p s t) (sym here.origin) begins) (g.O.Sink.held c.args.out.now) (here.traced p s t begins)))

pub returns-then-not-branch-clause-ok : goal.returns-then-not-branch-clause-ok
returns-then-not-branch-clause-ok g c = λ p s t begins.
    let here = c.loop-machine.invariant in
    c.in_ok-trace_event.ensures.ok p s t (subst (λ (o : Origin). Begins o p s t) (sym here.origin) begins) (g.O.Sink.held c.args.out.now) (here.traced p s t begins)
