use Rattle.std.proofs.Common.{Option, false, sym, ap, subst, ◌∙◌, arith}
use Rattle.w_configuration.specs.declared.stop.RunStop.{RunStop}
use Rattle.w_machine.specs.Position.{Position, Runs}
use Rattle.w_machine.proofs.RunsOfMany.{stopped_runs_stay, no_write_fault}
use Rattle.w_machine.proofs.GoingOn.{ends_run, goes_further, goes_one, hastened, hastened_to_stop, still_none, stops_run}
use Rattle.w_machine.proofs.Machines.{nothing_stopped}
use Rattle.w_machine.proofs.RunsToEvents.{step_taken}
use Rattle.w_machine.proofs.machine.Machine.go.Goals as goal

pub returns-then-is_some-clause-runs : goal.returns-then-is_some-clause-runs
returns-then-is_some-clause-runs g c =
    stopped_runs_stay c.args.self.now c.args.steps c.self.inside.stop _ (ap (λ (q : Position). q.stop) c.self.view_is) c.if-is_some.ensures

pub returns-then-hasten-clause-runs : goal.returns-then-hasten-clause-runs
returns-then-hasten-clause-runs g c =
    let here = c.loop-self.invariant in
    subst (λ (k : Option RunStop). Runs c.args.self.now c.args.steps k c.hasten.new.self (g.O.Sink.held c.args.out.now) (g.O.Sink.held c.loop-self.out))
    (sym (ap (λ (q : Position). q.stop) c.self-in-loop-self-2.view_is))
    (hastened_to_stop here.goes here.none _ false c.hasten.result c.if-hasten.true c.args.steps (omega (arith, here.end)) c.hasten.ensures.hastens)

pub returns-then-advance_slowly-clause-runs : goal.returns-then-advance_slowly-clause-runs
returns-then-advance_slowly-clause-runs g c =
    let here = c.loop-self.invariant in
    let on = hastened here.goes here.none _ false c.hasten.result c.if-hasten.false c.hasten.ensures.hastens in
    let now = ap (λ (q : Position). q.taken) c.self-in-loop-self-2.view_is in
    subst (λ (k : Option RunStop). Runs c.args.self.now c.args.steps k c.advance_slowly.new.self (g.O.Sink.held c.args.out.now) (g.O.Sink.held c.advance_slowly.new.out))
    (sym (ap (λ (q : Position). q.stop) c.self-then-self-end.view_is))
    (stops_run on.0 here.none c.advance_slowly.new.self _ c.args.steps c.advance_slowly.new.self.stop (sym c.if-advance_slowly.true ∙ c.advance_slowly.ensures.stops)
    (omega (arith, here.end, c.if-self-end.true, now)) c.advance_slowly.ensures.steps)

pub returns-then-advance_slowly-clause-cause : goal.returns-then-advance_slowly-clause-cause
returns-then-advance_slowly-clause-cause g c = λ none fault.
    let here = c.loop-self.invariant in
    let on = hastened here.goes here.none _ false c.hasten.result c.if-hasten.false c.hasten.ensures.hastens in
    let rose = c.advance_slowly.ensures.cause (still_none on.0 here.none) (sym (ap (λ (q : Position). q.stop) c.self-then-self-end.view_is) ∙ fault) in
    omega (arith, here.later, rose)

pub loop-self-smaller-else-advance_slowly : goal.loop-self-smaller-else-advance_slowly
loop-self-smaller-else-advance_slowly g c =
    let here = c.loop-self.invariant in
    let on = hastened here.goes here.none _ false c.hasten.result c.if-hasten.false c.hasten.ensures.hastens in
    let now = ap (λ (q : Position). q.taken) c.self-in-loop-self-2.view_is in
    let one = step_taken c.hasten.new.self c.advance_slowly.new.self (g.O.Sink.held c.loop-self.out) (g.O.Sink.held c.advance_slowly.new.out) c.advance_slowly.new.self.stop
    (nothing_stopped c.advance_slowly.new.self.stop (sym c.advance_slowly.ensures.stops ∙ c.if-advance_slowly.false)) (still_none on.0 here.none) c.advance_slowly.ensures.steps in
    omega (arith, on.3, one, now, c.if-self-end.true)

pub loop-self-preserved-else-advance_slowly : goal.loop-self-preserved-else-advance_slowly
loop-self-preserved-else-advance_slowly g c =
    let here = c.loop-self.invariant in
    let on = hastened here.goes here.none _ false c.hasten.result c.if-hasten.false c.hasten.ensures.hastens in
    let now = ap (λ (q : Position). q.taken) c.self-in-loop-self-2.view_is in
    let goes = sym c.if-advance_slowly.false ∙ c.advance_slowly.ensures.stops in
    let still = still_none on.0 here.none in
    let one = step_taken c.hasten.new.self c.advance_slowly.new.self (g.O.Sink.held c.loop-self.out) (g.O.Sink.held c.advance_slowly.new.out) c.advance_slowly.new.self.stop
    (nothing_stopped c.advance_slowly.new.self.stop (sym goes)) still c.advance_slowly.ensures.steps in
    record {
      goes = goes_further on.0 (goes_one c.advance_slowly.new.self.stop goes still c.advance_slowly.ensures.steps);
      none = here.none;
      most = omega (arith, one, now, c.if-self-end.true);
      end = here.end;
      later = omega (arith, here.later, c.advance_slowly.ensures.later);
    }

pub loop-self-preserved : goal.loop-self-preserved
loop-self-preserved g c =
    let here = c.loop-self.invariant in
    let on = hastened here.goes here.none _ false c.hasten.result c.if-hasten.false c.hasten.ensures.hastens in
    record { goes = on.0; none = here.none; most = on.1; end = here.end; later = here.later }

pub returns-clause-runs : goal.returns-clause-runs
returns-clause-runs g c =
    let here = c.loop-self.invariant in
    let now = ap (λ (q : Position). q.taken) c.self-in-loop-self.view_is in
    ends_run here.goes here.none c.stop_if_ended.new.self c.args.steps c.stop_if_ended.result (omega (arith, here.end, here.most, now, c.loop-self-test.false)) c.stop_if_ended.ensures

pub returns-clause-cause : goal.returns-clause-cause
returns-clause-cause g c = λ none e. absurd (no_write_fault c.loop-self.self c.stop_if_ended.new.self c.stop_if_ended.result c.stop_if_ended.ensures e)
