use Rattle.std.proofs.Common.{None, Option, true, refl, sym, ap, subst, ◌∙◌, arith, is_some}
use Rattle.w_configuration.specs.declared.stop.RunStop.{RunStop}
use Rattle.w_machine.specs.Position.{Position}
use Rattle.w_machine.specs.RunsToEvents.{RunsToEvent}
use Rattle.w_machine.proofs.GoingOn.{goes_further, goes_one, hastened, same_further, still_none}
use Rattle.w_machine.proofs.Machines.{nothing_stopped}
use Rattle.w_machine.proofs.RunsOfMany.{no_write_fault}
use Rattle.w_machine.proofs.RunsToEvents.{event_at_step, event_at_stop, hastened_at_stop, no_event_at_all, no_event_kept, step_taken, untold}
use Rattle.w_machine.proofs.machine.Machine.go_to_event.Goals as goal

pub returns-then-is_some-clause-runs : goal.returns-then-is_some-clause-runs
returns-then-is_some-clause-runs g c =
    no_event_kept c.args.self.now c.args.steps c.self.inside.stop _ (ap (λ (q : Position). q.stop) c.self.view_is) c.if-is_some.ensures

pub returns-then-hasten-clause-runs : goal.returns-then-hasten-clause-runs
returns-then-hasten-clause-runs g c =
    let here = c.loop-self.invariant in
    subst (λ (k : Option RunStop). RunsToEvent c.args.steps k None c.args.self.now c.hasten.new.self (g.O.Sink.held c.args.out.now) (g.O.Sink.held c.loop-self.out))
    (sym (ap (λ (q : Position). q.stop) c.self-in-loop-self-2.view_is))
    (hastened_at_stop here.goes here.none here.same c.args.steps c.hasten.new.self _ c.hasten.result c.if-hasten.true (omega (arith, here.end)) c.hasten.ensures.hastens)

pub advance_with_event-event-requires-clause-none : goal.advance_with_event-event-requires-clause-none
advance_with_event-event-requires-clause-none g c =
    let here = c.loop-self.invariant in
    let on = hastened here.goes here.none _ true c.hasten.result c.if-hasten.false c.hasten.ensures.hastens in
    still_none on.0 here.none

pub returns-then-is_some-2-clause-runs : goal.returns-then-is_some-2-clause-runs
returns-then-is_some-2-clause-runs g c =
    let here = c.loop-self.invariant in
    let on = hastened here.goes here.none _ true c.hasten.result c.if-hasten.false c.hasten.ensures.hastens in
    let now = ap (λ (q : Position). q.taken) c.self-in-loop-self-2.view_is in
    let new = c.advance_with_event-event.new.self in
    let stop = ap (λ (q : Position). q.stop) c.self-then-self-end.view_is in
    subst (λ (k : Option RunStop). RunsToEvent c.args.steps k c.advance_with_event-event.result c.args.self.now new (g.O.Sink.held c.args.out.now) (g.O.Sink.held c.advance_with_event-event.new.out))
    (sym stop)
    (event_at_stop on.0 here.none (same_further c.args.self.now c.loop-self.self c.hasten.new.self here.goes.is here.same (on.2 refl)) c.args.steps new _ new.stop c.advance_with_event-event.result
    (sym c.if-is_some-2.true ∙ c.is_some-then-self-end.ensures ∙ ap is_some stop) (omega (arith, here.end, c.if-self-end.true, now)) c.advance_with_event-event.ensures.steps c.advance_with_event-event.ensures.event)

pub returns-then-is_some-3-clause-runs : goal.returns-then-is_some-3-clause-runs
returns-then-is_some-3-clause-runs g c =
    let here = c.loop-self.invariant in
    let on = hastened here.goes here.none _ true c.hasten.result c.if-hasten.false c.hasten.ensures.hastens in
    let now = ap (λ (q : Position). q.taken) c.self-in-loop-self-2.view_is in
    let new = c.advance_with_event-event.new.self in
    let stop = ap (λ (q : Position). q.stop) c.self-then-self-end.view_is in
    event_at_step on.0 here.none (same_further c.args.self.now c.loop-self.self c.hasten.new.self here.goes.is here.same (on.2 refl)) c.args.steps new c.stop_if_ended.new.self _ new.stop c.stop_if_ended.result
    c.advance_with_event-event.result (sym c.if-is_some-2.false ∙ c.is_some-then-self-end.ensures ∙ ap is_some stop) (sym c.if-is_some-3.true ∙ c.is_some-then-self-end-2.ensures)
    (omega (arith, here.end, c.if-self-end.true, now)) c.advance_with_event-event.ensures.steps c.advance_with_event-event.ensures.event c.stop_if_ended.ensures

pub loop-self-smaller-else-is_some-3 : goal.loop-self-smaller-else-is_some-3
loop-self-smaller-else-is_some-3 g c =
    let here = c.loop-self.invariant in
    let on = hastened here.goes here.none _ true c.hasten.result c.if-hasten.false c.hasten.ensures.hastens in
    let now = ap (λ (q : Position). q.taken) c.self-in-loop-self-2.view_is in
    let new = c.advance_with_event-event.new.self in
    let stop = ap (λ (q : Position). q.stop) c.self-then-self-end.view_is in
    let one = step_taken c.hasten.new.self new (g.O.Sink.held c.loop-self.out) (g.O.Sink.held c.advance_with_event-event.new.out) new.stop
    (nothing_stopped new.stop (sym (ap is_some stop) ∙ sym c.is_some-then-self-end.ensures ∙ c.if-is_some-2.false)) (still_none on.0 here.none) c.advance_with_event-event.ensures.steps in
    omega (arith, on.3, one, now, c.if-self-end.true)

pub loop-self-preserved-else-is_some-3 : goal.loop-self-preserved-else-is_some-3
loop-self-preserved-else-is_some-3 g c =
    let here = c.loop-self.invariant in
    let on = hastened here.goes here.none _ true c.hasten.result c.if-hasten.false c.hasten.ensures.hastens in
    let now = ap (λ (q : Position). q.taken) c.self-in-loop-self-2.view_is in
    let new = c.advance_with_event-event.new.self in
    let stop = ap (λ (q : Position). q.stop) c.self-then-self-end.view_is in
    let goes = sym c.if-is_some-2.false ∙ c.is_some-then-self-end.ensures ∙ ap is_some stop in
    let still = still_none on.0 here.none in
    let further = same_further c.args.self.now c.loop-self.self c.hasten.new.self here.goes.is here.same (on.2 refl) in
    let one = step_taken c.hasten.new.self new (g.O.Sink.held c.loop-self.out) (g.O.Sink.held c.advance_with_event-event.new.out) new.stop (nothing_stopped new.stop (sym goes)) still
    c.advance_with_event-event.ensures.steps in
    record {
      goes = goes_further on.0 (goes_one new.stop goes still c.advance_with_event-event.ensures.steps);
      same = same_further c.args.self.now c.hasten.new.self new on.0.is further
          (untold c.hasten.new.self new c.advance_with_event-event.result (sym c.is_some-then-self-end-2.ensures ∙ c.if-is_some-3.false) c.advance_with_event-event.ensures.event);
      none = here.none;
      most = omega (arith, one, now, c.if-self-end.true);
      end = here.end;
      later = omega (arith, here.later, c.advance_with_event-event.ensures.later);
    }

pub loop-self-preserved : goal.loop-self-preserved
loop-self-preserved g c =
    let here = c.loop-self.invariant in
    let on = hastened here.goes here.none _ true c.hasten.result c.if-hasten.false c.hasten.ensures.hastens in
    record {
      goes = on.0;
      same = same_further c.args.self.now c.loop-self.self c.hasten.new.self here.goes.is here.same (on.2 refl);
      none = here.none;
      most = on.1;
      end = here.end;
      later = here.later;
    }

pub returns-clause-runs : goal.returns-clause-runs
returns-clause-runs g c =
    let here = c.loop-self.invariant in
    let now = ap (λ (q : Position). q.taken) c.self-in-loop-self.view_is in
    no_event_at_all here.goes here.none here.same c.args.steps c.stop_if_ended-2.new.self c.stop_if_ended-2.result (omega (arith, here.end, here.most, now, c.loop-self-test.false)) c.stop_if_ended-2.ensures

pub returns-clause-cause : goal.returns-clause-cause
returns-clause-cause g c = λ none e. absurd (no_write_fault c.loop-self.self c.stop_if_ended-2.new.self c.stop_if_ended-2.result c.stop_if_ended-2.ensures e)
