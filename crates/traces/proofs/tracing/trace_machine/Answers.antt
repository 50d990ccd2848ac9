use Rattle.std.proofs.Common.{ℕ, List, Err, ap, sym, subst, ◌∙◌}
use Rattle.w_outside.specs.Outside.{Grew, GrewByFront, Rose}
use Rattle.w_trace.specs.Events.{Events}
use Rattle.w_machine.specs.Beginning.{Origin, Begins}
use Rattle.traces.specs.Tracing.{event_lines}
use Rattle.traces.proofs.TracesWritten.{stops_map, stops_so, rose_later}
use Rattle.traces.proofs.TraceAnswers.{trace_whole, trace_left, stopped_left, stops_left}
use Rattle.traces.proofs.tracing.trace_machine.Goals as goal

pub returns-in_err-trace_steps-clause-leaves : goal.returns-in_err-trace_steps-clause-leaves
returns-in_err-trace_steps-clause-leaves g c = λ p s t begins.
    stops_left p s t c.args.steps (g.O.Sink.held c.args.out.now) (g.O.Sink.held c.trace_steps.new.out) (Rose (g.O.Sink.faults c.args.out.now) (g.O.Sink.faults c.trace_steps.new.out))
    c.from_residual-in_err-trace_steps.result c.in_err-trace_steps.field-0.0 c.from_residual-in_err-trace_steps.ensures.1
    (stops_map c.in_err-trace_steps.field-0.0 c.in_err-trace_steps.ensures.err (λ rose. rose) (λ begun. begun p s t begins))

pub returns-in-Ok-clause-leaves : goal.returns-in-Ok-clause-leaves
returns-in-Ok-clause-leaves g c = λ p s t begins.
    let traced = c.in_ok-trace_steps.ensures.ok p s t begins in
    let still = subst (λ (o : Origin). Begins o p s t) (sym c.in_ok-trace_steps.ensures.origin) begins in
    let ran = subst (λ (o : Origin). Begins o p s t) (sym c.ending_of-ending.ensures.origin) still in
    let text = trace_whole p s t c.args.steps c.trace_steps.new.machine c.taken.result c.ending_of-ending.result c.in_ok-trace_steps.ensures.after traced.settled
    (c.taken.ensures.value ∙ c.ending_of-ending.ensures.taken) (c.taken.ensures.counts p s t ran) (c.ending_of-ending.ensures.ending p s t still traced.settled) in
    trace_left p s t c.args.steps (g.O.Sink.held c.args.out.now) (g.O.Sink.held c.write_end.new.out) (Rose (g.O.Sink.faults c.args.out.now) (g.O.Sink.faults c.write_end.new.out))
    c.empty.result c.empty.ensures.piece c.empty.ensures.err
    (subst (λ (l : List ℕ). Grew (g.O.Sink.held c.args.out.now) (g.O.Sink.held c.write_end.new.out) l) text
    (c.in-Ok.ensures.ok (event_lines (Events p s t c.trace_steps.new.machine.taken)) (g.O.Sink.held c.args.out.now) traced.written))

pub returns-clause-leaves : goal.returns-clause-leaves
returns-clause-leaves g c = λ p s t begins.
    let traced = c.in_ok-trace_steps.ensures.ok p s t begins in
    let still = subst (λ (o : Origin). Begins o p s t) (sym c.in_ok-trace_steps.ensures.origin) begins in
    let ran = subst (λ (o : Origin). Begins o p s t) (sym c.ending_of-ending.ensures.origin) still in
    let text = trace_whole p s t c.args.steps c.trace_steps.new.machine c.taken.result c.ending_of-ending.result c.in_ok-trace_steps.ensures.after traced.settled
    (c.taken.ensures.value ∙ c.ending_of-ending.ensures.taken) (c.taken.ensures.counts p s t ran) (c.ending_of-ending.ensures.ending p s t still traced.settled) in
    stopped_left p s t c.args.steps (g.O.Sink.held c.args.out.now) (g.O.Sink.held c.write_end.new.out) (Rose (g.O.Sink.faults c.args.out.now) (g.O.Sink.faults c.write_end.new.out))
    c.stop_of.result
    (stops_so c.in-Err.fault c.stop_of.result c.stop_of.ensures.failed c.stop_of.ensures.memory
    (λ e. rose_later (g.O.Sink.faults c.args.out.now) (g.O.Sink.faults c.trace_steps.new.out) (g.O.Sink.faults c.write_end.new.out) c.trace_steps.ensures.later (c.in-Err.ensures.cause.failed (ap Err e)))
    (subst (λ (l : List ℕ). GrewByFront (g.O.Sink.held c.args.out.now) (g.O.Sink.held c.write_end.new.out) l) text
    (c.in-Err.ensures.err (event_lines (Events p s t c.trace_steps.new.machine.taken)) (g.O.Sink.held c.args.out.now) traced.written)))
