-- Runs up to the first event.
use Rattle.std.proofs.Common.{◌≡◌, ℕ, suc, ◌+◌, ◌-◌, ◌<◌, ◌≤◌, Bool, true, false, is_some, List, ◌++◌, Option, Some, None, refl, sym, ap, subst, ◌∙◌, arith, append-nil}
use Rattle.std.specs.Prelude.{IfSome, option_to_list}
use Rattle.w_reduce.specs.Store.{Store}
use Rattle.w_reduce.specs.Terms.{Term}
use Rattle.w_reduce.specs.Program.{Program}
use Rattle.w_reduce.specs.Run.{Run}
use Rattle.w_trace.specs.declared.event.Event.{Event}
use Rattle.w_trace.specs.declared.event.EventKind.{EventKind}
use Rattle.w_trace.specs.Events.{with_step, event_after, Events}
use Rattle.w_configuration.specs.declared.stop.RunStop.{RunStop}
use Rattle.w_configuration.specs.declared.stop.RunStop.TheVariants as run_stop
use Rattle.w_machine.specs.Beginning.{Begins}
use Rattle.w_machine.specs.Position.{Position, StopsWith, counted, with_stop, StepsFrom, Steps, StopsIfEnded}
use Rattle.w_machine.specs.GoingOn.{GoesOn, SameEvents, Hastens}
use Rattle.w_machine.specs.RunsToEvents.{Tells, RunsToEvent}
use Rattle.w_machine.proofs.RunsOfMany.{stopped_runs_stay}
use Rattle.w_machine.proofs.StepEvents.{stopped_none}
use Rattle.w_machine.proofs.Machines.{nothing_stopped}
use Rattle.w_machine.proofs.GoingOn.{begins_there, goes_further, goes_one, same_further, still_none, stops_run, ends_run}

-- ## What a reduction tells

tells_none : {old new : Position} → SameEvents old new → Tells None old new
tells_none {old = old} same = record { events = λ p s t begins. same p s t begins ∙ sym (append-nil (Events p s t old.taken)); last = tt }

-- where none is told no reduction has one
pub untold : (old new : Position) (event : Option Event) → is_some event ≡ false → Tells event old new → SameEvents old new
untold old new None e h p s t begins = h.events p s t begins ∙ append-nil (Events p s t old.taken)
untold old new (Some k) e h p s t begins = absurd (cc)

-- one that was taken has the run's event
pub went_tells : {q q' : Position} (k : ℕ) (kind : Option EventKind) → k ≡ q.taken → q'.taken ≡ q.taken + 1
    → ((p : Program) (s : Store) (t : Term) → Begins q.origin p s t → with_step (k + 1) kind ≡ event_after p (Run p s t q.taken)) → Tells (with_step (k + 1) kind) q q'
went_tells {q = q} {q' = q'} k kind count more told = record {
  events = λ p s t begins.
      ap (Events p s t) (let e : q'.taken ≡ suc q.taken = omega (arith, more) in e) ∙ ap (λ (o : Option Event). Events p s t q.taken ++ option_to_list o) (sym (told p s t begins));
  last = numbered_last kind (let e : k + 1 ≡ q'.taken = omega (arith, count, more) in e);
}
  where
    numbered_last : (o : Option EventKind) {i n : ℕ} → i ≡ n → IfSome (with_step i o) (λ e. e.step ≡ n)
    numbered_last None same = tt
    numbered_last (Some y) same = same

-- a step that nothing stopped counts one reduction
pub step_taken : (q q' : Position) (before now : Option (List ℕ)) (o : Option RunStop) → o ≡ None → q.stop ≡ None → Steps q o q' before now → q'.taken ≡ q.taken + 1
step_taken q q' before now None e none steps = let h = subst (λ (x : Option RunStop). StepsFrom x q None q' before now) none steps in ap (λ (y : Position). y.taken) h.0
step_taken q q' before now (Some k) e none steps = absurd (cc)

-- what stopped a machine has none
module _ (q q' : Position) where
  uncounted : q'.taken ≡ q.taken + 0 → SameEvents q q'
  uncounted count p s t begins = ap (Events p s t) (let e : q'.taken ≡ q.taken = omega (arith, count) in e)

  without : (p : Program) (s : Store) (t : Term) → q'.taken ≡ q.taken + 1 → event_after p (Run p s t q.taken) ≡ None → Events p s t q'.taken ≡ Events p s t q.taken
  without p s t count is =
      ap (Events p s t) (let e : q'.taken ≡ suc q.taken = omega (arith, count) in e)
      ∙ ap (λ (o : Option Event). Events p s t q.taken ++ option_to_list o) is
      ∙ append-nil (Events p s t q.taken)

  same_by : (k : RunStop) → q'.taken ≡ q.taken + counted k → ((p : Program) (s : Store) (t : Term) → Begins q.origin p s t → StopsWith k (Run p s t (q.taken + counted k)).outcome) → SameEvents q q'
  same_by run_stop.Ended count came = uncounted count
  same_by (run_stop.Limit name) count came = λ p s t begins. without p s t count (stopped_none p s t q.taken (run_stop.Limit name) refl (came p s t begins))
  same_by (run_stop.Trapped x) count came = λ p s t begins. without p s t count (stopped_none p s t q.taken (run_stop.Trapped x) refl (came p s t begins))
  same_by run_stop.WriteFault count came = uncounted count
  same_by run_stop.OutOfMemory count came = uncounted count

  pub stopped_tells : (r : Option RunStop) (before now : Option (List ℕ)) → q.stop ≡ None → true ≡ is_some r → Steps q r q' before now → Tells None q q'
  stopped_tells None before now none e steps = absurd (cc)
  stopped_tells (Some k) before now none e steps =
      let h = subst (λ (o : Option RunStop). StepsFrom o q (Some k) q' before now) none steps in
      tells_none (same_by k (ap (λ (y : Position). y.taken) h.0) (λ p s t begins. (h.1 p s t begins).0))

-- ## Further on

tells_further : {old l new : Position} {event : Option Event} → l ≡ record old { taken = l.taken } → SameEvents old l → Tells event l new → Tells event old new
tells_further {old = old} {l = l} {event = event} is same h = record {
  events = λ p s t begins. h.events p s t (begins_there old l is p s t begins) ∙ ap (λ (es : List Event). es ++ option_to_list event) (same p s t begins);
  last = h.last;
}

tells_at : {old new new' : Position} (event : Option Event) → new'.taken ≡ new.taken → Tells event old new → Tells event old new'
tells_at {old = old} event count h = record {
  events = λ p s t begins. ap (Events p s t) count ∙ h.events p s t begins;
  last = subst (λ (n : ℕ). IfSome event (λ e. e.step ≡ n)) (sym count) h.last;
}

-- what is told where none is taken changes no count
count_stays : (old new : Position) (r : Option RunStop) → new ≡ with_stop old r → new.taken ≡ old.taken
count_stays old new None is = ap (λ (y : Position). y.taken) is
count_stays old new (Some k) is = ap (λ (y : Position). y.taken) is

-- ## Runs

module _ {old l : Position} {first b : Option (List ℕ)} (h : GoesOn old l first b) (none : old.stop ≡ None) (same : SameEvents old l) (steps : ℕ) where
  -- a step that stopped stops it
  pub event_at_stop : (new : Position) (a : Option (List ℕ)) (r : Option RunStop) (event : Option Event) → true ≡ is_some r → l.taken < old.taken + steps → Steps l r new b a → Tells event l new
      → RunsToEvent steps r event old new first a
  event_at_stop new a r event some less steps_on tells =
      let more = h.more in record {
        count = l.taken - old.taken + 1;
        most = omega (arith, less, more);
        some = λ e. omega arith;
        all = λ e f. absurd (let k : true ≡ is_some {T = RunStop} None = some ∙ ap (is_some {T = RunStop}) e in cc);
        runs = stops_run h none new a (l.taken - old.taken + 1) r some (omega (arith, more)) steps_on;
        tells = tells_further h.is same tells;
      }

  -- so does one of those that a machine hastens through
  pub hastened_at_stop : (new : Position) (end : ℕ) (stopped : Bool) → stopped ≡ true → end ≤ old.taken + steps → Hastens true stopped end l new → RunsToEvent steps new.stop None old new first b
  hastened_at_stop new end false e le k = absurd (cc)
  hastened_at_stop new end true e le k =
      let less = k.last.0 in
      let more = h.more in
      let further = goes_further h (k.silently.goes b) in
      let far = further.more in record {
        count = k.between.taken - old.taken + 1;
        most = omega (arith, less, le, far);
        some = λ e. omega arith;
        all = λ e f. absurd (let g : true ≡ is_some {T = RunStop} None = k.last.1.stops ∙ ap (is_some {T = RunStop}) e in cc);
        runs = stops_run further none new b (k.between.taken - old.taken + 1) new.stop k.last.1.stops (omega (arith, far)) (k.last.1.steps b);
        tells = tells_further further.is (same_further old l k.between h.is same (k.silently.events refl)) (stopped_tells k.between new new.stop b b (still_none further none) k.last.1.stops (k.last.1.steps b));
      }

  -- a step that has an event ends it, and what is told then is what the run came to
  pub event_at_step : (new last : Position) (a : Option (List ℕ)) (k r : Option RunStop) (event : Option Event) → false ≡ is_some k → true ≡ is_some event → l.taken < old.taken + steps
      → Steps l k new b a → Tells event l new → StopsIfEnded new r last → RunsToEvent steps r event old last first a
  event_at_step new last a k r event went some less steps_on tells ends =
      let l_none : l.stop ≡ None = ap (λ (y : Position). y.stop) h.is ∙ none in
      let one = goes_one k went l_none steps_on in
      let further = goes_further h one in
      let more = h.more in
      let far = further.more in
      let taken = step_taken l new b a k (nothing_stopped k (sym went)) l_none steps_on in record {
        count = new.taken - old.taken;
        most = omega (arith, less, more, taken);
        some = λ e. omega (arith, more, taken);
        all = λ e f. absurd (let g : true ≡ is_some {T = Event} None = some ∙ ap (is_some {T = Event}) f in cc);
        runs = ends_run further none last (new.taken - old.taken) r (omega (arith, far)) ends;
        tells = tells_at {new = new} event (count_stays new last r ends.0) (tells_further h.is same tells);
      }

  -- or all were taken
  pub no_event_at_all : (last : Position) (r : Option RunStop) → l.taken ≡ old.taken + steps → StopsIfEnded l r last → RunsToEvent steps r None old last first b
  no_event_at_all last r all ends = record {
    count = steps;
    most = omega arith;
    some = λ e. absurd (cc);
    all = λ e f. refl;
    runs = ends_run h none last steps r all ends;
    tells = tells_at {new = l} None (count_stays l last r ends.0) (tells_none same);
  }

-- where an outcome is kept there is none
pub no_event_kept : (old : Position) (steps : ℕ) (k : Option RunStop) (b : Option (List ℕ)) → k ≡ old.stop → true ≡ is_some k → RunsToEvent steps k None old old b b
no_event_kept old steps k b same some = record {
  count = 0;
  most = omega arith;
  some = λ e. absurd (cc);
  all = λ e f. absurd (let g : true ≡ is_some {T = RunStop} None = some ∙ ap (is_some {T = RunStop}) e in cc);
  runs = stopped_runs_stay old 0 k b same some;
  tells = tells_none (λ p s t begins. refl);
}
