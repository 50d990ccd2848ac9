use Rattle.std.proofs.Common.{◌∙◌, Bool, Option, sym, subst}
use Rattle.w_trace.specs.declared.event.Event.{Event}
use Rattle.w_machine.specs.Beginning.{Origin, Begins}
use Rattle.traces.specs.Stepping.{GoesOn, GoesToEvent}
use Rattle.traces.proofs.EventsFollowed.{IsNext, another, next_came, next_within, goes_within}
use Rattle.traces.proofs.comparing.follow.Goals as goal
use Rattle.traces.proofs.comparing.follow.Goals.{in-Some+else-not-is_at, in_default}

pub returns-then-not-is_at-clause-followed : goal.returns-then-not-is_at-clause-followed
returns-then-not-is_at-clause-followed c = λ p s t begins.
    let at = c.loop-machine in
    let step = c.in_ok-goes.ensures in
    let event = c.in-Some.event in
    let less = c.loop-machine-test.true in
    let few = goes_within c.in_ok-goes.goes c.args.steps at.machine c.go_to_event.new.machine step.goes in
    let taken = subst (λ (o : Option Event). GoesToEvent p s t o at.machine c.go_to_event.new.machine) c.in-Some.is (step.event p s t (subst (λ (o : Origin). Begins o p s t) (sym at.invariant.origin) begins)) in
    another p s t c.args.events.now at.place at.machine c.go_to_event.new.machine (at.invariant.so_far p s t begins) c.args.steps event few at.invariant.place
    (λ is. let yes = c.is_at.ensures.1 is in absurd (let no = c.if-not-is_at.true in cc)) taken

pub returns-then-not-goes-clause-followed : goal.returns-then-not-goes-clause-followed
returns-then-not-goes-clause-followed c = λ p s t begins.
    let at = c.loop-machine in
    let step = c.in_ok-goes.ensures in
    let next : IsNext c.args.events.now at.place c.match-event.place c.in_ok-goes.event =
    elim c.match-event.branch [
      | in-Some+else-not-is_at w ↦ subst (IsNext c.args.events.now at.place c.match-event.place) (sym w.in-Some.is) (w.is_at.ensures.0 w.if-not-is_at.false, w.place-is)
      | in_default w ↦ subst (IsNext c.args.events.now at.place c.match-event.place) (sym w.in_default.is) w.place-is
    ] in
    let taken = step.event p s t (subst (λ (o : Origin). Begins o p s t) (sym at.invariant.origin) begins) in (
      next_within c.args.events.now at.place c.match-event.place c.in_ok-goes.event at.invariant.place next,
      next_came p s t c.args.events.now at.place c.match-event.place c.in_ok-goes.event at.machine c.go_to_event.new.machine (at.invariant.so_far p s t begins) next taken,
      taken.settled,
    )

pub loop-machine-preserved : goal.loop-machine-preserved
loop-machine-preserved c =
    let at = c.loop-machine in
    let step = c.in_ok-goes.ensures in
    let less = c.loop-machine-test.true in
    let next : IsNext c.args.events.now at.place c.match-event.place c.in_ok-goes.event =
    elim c.match-event.branch [
      | in-Some+else-not-is_at w ↦ subst (IsNext c.args.events.now at.place c.match-event.place) (sym w.in-Some.is) (w.is_at.ensures.0 w.if-not-is_at.false, w.place-is)
      | in_default w ↦ subst (IsNext c.args.events.now at.place c.match-event.place) (sym w.in_default.is) w.place-is
    ] in
    let goes = subst (λ (b : Bool). GoesOn b c.args.steps at.machine c.go_to_event.new.machine) c.if-not-goes.false step.goes in
    record {
      none = goes.0;
      within = goes.1;
      place = next_within c.args.events.now at.place c.match-event.place c.in_ok-goes.event at.invariant.place next;
      origin = step.origin ∙ at.invariant.origin;
      so_far = λ p s t begins.
          next_came p s t c.args.events.now at.place c.match-event.place c.in_ok-goes.event at.machine c.go_to_event.new.machine (at.invariant.so_far p s t begins) next
          (step.event p s t (subst (λ (o : Origin). Begins o p s t) (sym at.invariant.origin) begins));
    }
