use Rattle.std.proofs.Common.{Option, is_some, sym, ap, subst, ◌∙◌}
use Rattle.w_trace.specs.declared.event.Event.{Event}
use Rattle.w_machine.specs.Position.{Position}
use Rattle.w_machine.specs.RunsToEvents.{Tells}
use Rattle.w_machine.proofs.Machines.{machine_stands, nothing_stopped}
use Rattle.w_machine.proofs.StepEvents.{went_event}
use Rattle.w_machine.proofs.RunsToEvents.{stopped_tells, went_tells, step_taken}
use Rattle.w_machine.proofs.machine.Machine.advance_with_event.Goals as goal

pub next_event-kind-requires : goal.next_event-kind-requires
next_event-kind-requires g c =
    let nothing = ap (λ (q : Position). q.stop) c.self.view_is ∙ c.requires.none in
    machine_stands c.self.inside.stop c.module.ensures.same (sym (ap is_some nothing)) c.self.invariant c.classes-classes.result.now c.classes-classes.ensures

pub returns-then-is_some-clause-event : goal.returns-then-is_some-clause-event
returns-then-is_some-clause-event g c =
    let stopped = c.if-is_some.true in
    let new = c.advance_slowly.new.self in
    stopped_tells c.args.self.now new new.stop (g.O.Sink.held c.args.out.now) (g.O.Sink.held c.advance_slowly.new.out) c.requires.none
    (sym stopped ∙ c.is_some.ensures ∙ ap is_some (ap (λ (q : Position). q.stop) c.self-2.view_is)) c.advance_slowly.ensures.steps

pub returns-clause-event : goal.returns-clause-event
returns-clause-event g c =
    let held = g.O.Sink.held c.args.out.now in
    let after = g.O.Sink.held c.advance_slowly.new.out in
    let new = c.advance_slowly.new.self in
    let goes_on = nothing_stopped new.stop (sym (ap is_some (ap (λ (q : Position). q.stop) c.self-2.view_is)) ∙ sym c.is_some.ensures ∙ c.if-is_some.false) in
    subst (λ (e : Option Event). Tells e c.args.self.now new) (sym c.numbered.ensures)
    (went_tells {q = c.args.self.now} {q' = new} c.self.inside.taken c.next_event-kind.result (ap (λ (q : Position). q.taken) c.self.view_is)
    (step_taken c.args.self.now new held after new.stop goes_on c.requires.none c.advance_slowly.ensures.steps)
    (went_event held after c.self.inside.stop c.self-2.inside.stop c.module.ensures.same c.next_event-kind.result c.next_event-kind.ensures c.self.invariant c.self.view_is c.self-2.invariant
    c.self-2.view_is c.requires.none goes_on c.advance_slowly.ensures.steps))
