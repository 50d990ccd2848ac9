-- Common reductions, one after another: they print nothing, and have no events.
use Rattle.std.proofs.Common.{◌≡◌, ℕ, suc, ◌+◌, ◌-◌, ◌<◌, ◌≤◌, Bool, true, false, is_some, List, [], ◌++◌, Option, Some, None, refl, sym, ap, subst, ◌∙◌, arith, append-nil}
use Rattle.std.specs.Prelude.{Box, option_to_list}
use Rattle.std.specs.declared.alloc.Global.{Global}
use Rattle.w_outside.proofs.Growth.{grew_nothing}
use Rattle.w_syntax.specs.declared.module.Module.{Module}
use Rattle.w_segment.specs.declared.segment.Segment.{Segment}
use Rattle.w_reduce.specs.Store.{Store}
use Rattle.w_reduce.specs.Terms.{Term}
use Rattle.w_reduce.specs.Program.{Program}
use Rattle.w_reduce.specs.Reduced.{Reduced, Went, Trapped, Limited, Ended, Stuck}
use Rattle.w_reduce.specs.Reduce.{reduce}
use Rattle.w_reduce.specs.Run.{Outcome, Running, Values, Traps, Limit, NoRule, RunState, Run}
use Rattle.w_trace.specs.declared.event.Event.{Event}
use Rattle.w_trace.specs.declared.event.EventKind.{EventKind}
use Rattle.w_trace.specs.Events.{event_of, where_went, with_step, while_running, event_after, Events}
use Rattle.w_configuration.specs.declared.stop.RunStop.{RunStop}
use Rattle.w_configuration.specs.declared.configuration.Configuration.{Configuration as Parts}
use Rattle.w_configuration.specs.Parts.{whole}
use Rattle.w_configuration.specs.NextEvents.{TellsEvent}
use Rattle.w_machine.specs.Beginning.{Origin, Begins}
use Rattle.w_configuration.specs.Standing.{Stands}
use Rattle.w_machine.specs.Position.{Position, PrintedBetween, StepsFrom, Steps, StopsIfEnded, Runs}
use Rattle.w_machine.specs.Reached.{waiting_of, IsReachedAt, IsReachedBy, IsReached}
use Rattle.w_machine.specs.GoingOn.{GoesOn, SameEvents, GoesSilently, Hastens}
use Rattle.w_machine.proofs.RunsOfMany.{printed_more, run_stopped, run_stops}

-- ## What does nothing with continuations

-- a redex without an event has none, whatever comes of it
nothing_comes : (o : Outcome) (n : ℕ) (d : Reduced) → while_running o (with_step n (where_went d None)) ≡ None
nothing_comes Running n (Went out s t) = refl
nothing_comes Running n (Trapped t) = refl
nothing_comes Running n (Limited l) = refl
nothing_comes Running n (Ended vs) = refl
nothing_comes Running n Stuck = refl
nothing_comes (Values vs) n d = refl
nothing_comes (Traps t) n d = refl
nothing_comes (Limit l) n d = refl
nothing_comes NoRule n d = refl

module _ {from : Origin} {functions : List ℕ} {x : Parts} {waiting : List (Box Segment Global)} {n a b : ℕ} {m : Module} {q : Position} (k : Option RunStop)
    (program : m ≡ from.source) (none : k ≡ None) (tells : TellsEvent None m x) (h : IsReached from functions x waiting k n a b) (view : record { origin = from; taken = n; stop = k } ≡ q) where
  -- where the parts tell that none comes, the run has none
  no_event : (p : Program) (s₀ : Store) (t₀ : Term) → Begins q.origin p s₀ t₀ → event_after p (Run p s₀ t₀ q.taken) ≡ None
  no_event p s₀ t₀ begins =
      let first : from ≡ q.origin = ap (λ (y : Position). y.origin) view in
      let count : n ≡ q.taken = ap (λ (y : Position). y.taken) view in
      let r = Run p s₀ t₀ n in
      let at : IsReachedAt from.source (waiting_of waiting) x n p r =
      subst (λ (o : Option RunStop). IsReachedBy o from.source (waiting_of waiting) x n a b p r) none (h.reached p s₀ t₀ (subst (λ (o : Origin). Begins o p s₀ t₀) (sym first) begins)) in
      let told : None ≡ event_of (whole x.store at.ks) at.t =
      tells (waiting_of waiting) p at.ks at.t (subst (λ (y : Module). Stands y (waiting_of waiting) x p at.ks at.t) (sym program) at.stands) in
      let event : event_of r.store r.term ≡ event_of (whole x.store at.ks) at.t = ap (λ (y : RunState). event_of y.store y.term) at.is in
      ap (λ (i : ℕ). event_after p (Run p s₀ t₀ i)) (sym count)
      ∙ ap (λ (o : Option EventKind). while_running r.outcome (with_step (suc r.taken) (where_went (reduce p r.store r.term) o))) (event ∙ sym told)
      ∙ nothing_comes r.outcome (suc r.taken) (reduce p r.store r.term)

  -- so with one reduction more it has the same
  pub one_without : (l : ℕ) → l ≡ n + 1 → (p : Program) (s₀ : Store) (t₀ : Term) → Begins q.origin p s₀ t₀ → Events p s₀ t₀ l ≡ Events p s₀ t₀ q.taken
  one_without l more p s₀ t₀ begins =
      let count : n ≡ q.taken = ap (λ (y : Position). y.taken) view in
      let next : l ≡ suc q.taken = omega (arith, count, more) in
      ap (Events p s₀ t₀) next
      ∙ ap (λ (o : Option Event). Events p s₀ t₀ q.taken ++ option_to_list o) (no_event p s₀ t₀ begins)
      ∙ append-nil (Events p s₀ t₀ q.taken)

-- ## Several reductions

pub begins_there : (old new : Position) → new ≡ record old { taken = new.taken } → (p : Program) (s : Store) (t : Term) → Begins old.origin p s t → Begins new.origin p s t
begins_there old new is p s t begins = subst (λ (o : Origin). Begins o p s t) (sym (ap (λ (y : Position). y.origin) is)) begins

pub goes_nowhere : (q : Position) (b : Option (List ℕ)) → GoesOn q q b b
goes_nowhere q b = record {
  is = refl;
  more = omega arith;
  prints = λ p s t begins. record { text = []; is = sym (append-nil (Run p s t q.taken).output); grew = grew_nothing b };
}

pub goes_further : {old l new : Position} {a b c : Option (List ℕ)} → GoesOn old l a b → GoesOn l new b c → GoesOn old new a c
goes_further {old = old} {l = l} {new = new} h k = record {
  is = k.is ∙ ap (λ (y : Position). let z : Position = record y { taken = new.taken } in z) h.is;
  more = let first = h.more in let last = k.more in omega (arith, first, last);
  prints = λ p s t begins. printed_more (h.prints p s t begins) (k.prints p s t (begins_there old l h.is p s t begins));
}

pub still_none : {old l : Position} {a b : Option (List ℕ)} → GoesOn old l a b → old.stop ≡ None → l.stop ≡ None
still_none h none = ap (λ (y : Position). y.stop) h.is ∙ none

-- a step that nothing stopped is one reduction
pub goes_one : {old new : Position} {a b : Option (List ℕ)} (r : Option RunStop) → false ≡ is_some r → old.stop ≡ None → Steps old r new a b → GoesOn old new a b
goes_one (Some k) e none steps = absurd (cc)
goes_one {old = old} {new = new} {a = a} {b = b} None e none steps =
    let h = subst (λ (o : Option RunStop). StepsFrom o old None new a b) none steps in
    let taken : new.taken ≡ old.taken + 1 = ap (λ (y : Position). y.taken) h.0 in
    record {
      is = h.0 ∙ ap (λ (n : ℕ). let z : Position = record old { taken = n } in z) (sym taken);
      more = omega (arith, taken);
      prints = λ p s t begins. subst (λ (n : ℕ). PrintedBetween (Run p s t old.taken) (Run p s t n) a b) (sym taken) (h.1 p s t begins).1;
    }

pub same_further : (old l new : Position) → l ≡ record old { taken = l.taken } → SameEvents old l → SameEvents l new → SameEvents old new
same_further old l new is h k p s t begins = k p s t (begins_there old l is p s t begins) ∙ h p s t begins

-- ## Silent ones

pub silently_nowhere : (quiet : Bool) (q : Position) → GoesSilently quiet q q
silently_nowhere quiet q = record { goes = goes_nowhere q; events = λ e p s t begins. refl }

-- ## Runs of them

module _ {old l : Position} {first b : Option (List ℕ)} (h : GoesOn old l first b) (none : old.stop ≡ None) where
  abbrev At : ℕ → Position
  At i = record old { taken = old.taken + i }

  abbrev far : ℕ
  far = l.taken - old.taken

  sum : l.taken ≡ old.taken + far
  sum = let more = h.more in omega (arith, more)

  at : l ≡ At far
  at = h.is ∙ ap (λ (n : ℕ). let z : Position = record old { taken = n } in z) sum

  printed : (p : Program) (s : Store) (t : Term) → Begins old.origin p s t → PrintedBetween (Run p s t old.taken) (Run p s t (old.taken + far)) first b
  printed p s t begins = subst (λ (n : ℕ). PrintedBetween (Run p s t old.taken) (Run p s t n) first b) sum (h.prints p s t begins)

  -- a step that stopped stops the run
  pub stops_run : (new : Position) (a : Option (List ℕ)) (steps : ℕ) (r : Option RunStop) → true ≡ is_some r → l.taken < old.taken + steps → Steps l r new b a → Runs old steps r new first a
  stops_run new a steps r some less h' = run_stopped old l new far steps first b a at none printed r some (let s = sum in omega (arith, s, less)) h'

  -- where all were taken, what is told then is what the run came to
  pub ends_run : (new : Position) (steps : ℕ) (r : Option RunStop) → l.taken ≡ old.taken + steps → StopsIfEnded l r new → Runs old steps r new first b
  ends_run new steps r all h' = run_stops old l new far steps first b b at none printed r (let s = sum in omega (arith, s, all)) h'

-- ## What a machine that hastens comes to

module _ {old l new : Position} {first b : Option (List ℕ)} (h : GoesOn old l first b) (none : old.stop ≡ None) (end : ℕ) where
  -- it went on
  pub hastened : (quiet stopped : Bool) → stopped ≡ false → Hastens quiet stopped end l new
      → GoesOn old new first b × (new.taken ≤ end) × (quiet ≡ true → SameEvents l new) × (l.taken ≤ new.taken)
  hastened quiet true e k = absurd (cc)
  hastened quiet false e k =
      let is = k.last.1 in (
        goes_further h (subst (λ (y : Position). GoesOn l y b b) (sym is) (k.silently.goes b)),
        subst (λ (y : Position). y.taken ≤ end) (sym is) k.last.0,
        λ silent. subst (λ (y : Position). SameEvents l y) (sym is) (k.silently.events silent),
        subst (λ (y : Position). l.taken ≤ y.taken) (sym is) (k.silently.goes b).more,
      )

  -- or was stopped
  pub hastened_to_stop : (quiet stopped : Bool) → stopped ≡ true → (steps : ℕ) → end ≤ old.taken + steps → Hastens quiet stopped end l new → Runs old steps new.stop new first b
  hastened_to_stop quiet false e steps le k = absurd (cc)
  hastened_to_stop quiet true e steps le k =
      let less = k.last.0 in
      stops_run (goes_further h (k.silently.goes b)) none new b steps new.stop k.last.1.stops (omega (arith, le, less)) (k.last.1.steps b)
