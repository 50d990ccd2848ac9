-- A list of events beside those of a run, as far as the two go together.
use Rattle.std.proofs.Common.{◌≡◌, ◌≤◌, ◌<◌, ◌+◌, ◌-◌, ◌∙◌, ℕ, zero, suc, Bool, true, false, List, [], ◌∷◌, ◌++◌, length, map, take, Option, Some, None, refl, sym, ap, subst, append_assoc, append-nil, get_or, ltb, arith}
use Rattle.std.specs.Prelude.{slice_get}
use Rattle.std.proofs.lemmas.List.{take_all}
use Rattle.std.proofs.lemmas.Option.{slice_get_past, slice_get_read}
use borrow.Author.Tests.{ltb-true, ltb-false}
use Rattle.w_reduce.specs.Program.{Program}
use Rattle.w_reduce.specs.Run.{RunState, Run}
use Rattle.w_reduce.specs.Store.{Store}
use Rattle.w_reduce.specs.Terms.{Term}
use Rattle.w_trace.specs.declared.event.Event.{Event}
use Rattle.w_trace.specs.declared.line.Line.{Line}
use Rattle.w_trace.specs.declared.line.Line.TheVariants as line
use Rattle.w_trace.specs.declared.trace.Ending.{Ending}
use Rattle.w_trace.specs.declared.trace.Trace.{Trace}
use Rattle.w_trace.specs.Events.{Events}
use Rattle.w_trace.specs.Lines.{lines_of, DifferAt}
use Rattle.w_trace.specs.Traces.{ending_of, trace_of}
use Rattle.w_trace.proofs.Runs.{events_go_on, no_more_events}
use Rattle.w_configuration.specs.declared.stop.RunStop.{RunStop}
use Rattle.w_machine.specs.Position.{Position}
use Rattle.runs.specs.Running.{IsAfter, IsAfterBy}
use Rattle.traces.specs.Stepping.{GoesOn, IsSettled, GoesToEvent}
use Rattle.traces.specs.Auditing.{FollowedTo}
use Rattle.traces.specs.declared.comparing.Followed.{Followed}
use Rattle.traces.specs.declared.comparing.Followed.TheVariants.{All, Apart}
use Rattle.runs.proofs.Runs.{not_running, run_after}

-- ## A machine on its way

-- it takes no more reductions than it may
pub goes_within : (goes : Bool) (steps : ℕ) (old new : Position) → GoesOn goes steps old new → new.taken ≤ steps
goes_within true steps old new h = h.1
goes_within false steps old new h = h.1

-- ## The events of a step

take_here : (xs : List Event) (n : ℕ) (x : Event) → slice_get xs n ≡ Some x → (n < length xs) × (take (suc n) xs ≡ take n xs ++ x ∷ [])
take_here [] n x at = absurd (cc)
take_here (y ∷ xs) zero x at = let e : y ≡ x = cc in (omega arith, ap (λ (z : Event). z ∷ []) e)
take_here (y ∷ xs) (suc n) x at = let h = take_here xs n x at in let less = h.0 in (omega (arith, less), ap (λ (zs : List Event). y ∷ zs) h.1)

module _ (p : Program) (s : Store) (t : Term) (es : List Event) (n : ℕ) (old new : Position) (so_far : take n es ≡ Events p s t old.taken) where
  -- the event of the step is the list's next
  one_more : (event : Event) → slice_get es n ≡ Some event → GoesToEvent p s t (Some event) old new → take (n + 1) es ≡ Events p s t new.taken
  one_more event at h = ap (λ (k : ℕ). take k es) (let e : n + 1 ≡ suc n = omega arith in e) ∙ (take_here es n event at).1 ∙ ap (λ (l : List Event). l ++ event ∷ []) so_far ∙ sym h.events

  -- it has none
  none_more : GoesToEvent p s t None old new → take n es ≡ Events p s t new.taken
  none_more h = so_far ∙ sym (append-nil (Events p s t old.taken)) ∙ sym h.events

  -- it is another
  pub another : (steps : ℕ) (event : Event) → new.taken ≤ steps → n ≤ length es → (slice_get es n ≡ Some event → ⊥) → GoesToEvent p s t (Some event) old new → FollowedTo es p s t steps new (Apart n)
  another steps event within place apart h =
      let more = events_go_on p s t new.taken (steps - new.taken) in
      let sum : new.taken + (steps - new.taken) ≡ steps = omega (arith, within) in (
        place,
        (
          event,
          more.0,
          ap (Events p s t) (sym sum) ∙ more.1
              ∙ ap (λ (l : List Event). l ++ more.0) (h.events ∙ ap (λ (l : List Event). l ++ event ∷ []) (sym so_far))
              ∙ append_assoc (take n es) (event ∷ []) more.0,
          apart,
        ),
      )

-- the event of a step, if any, is at this place of a list, and the next place is this
abbrev pub IsNext : List Event → ℕ → ℕ → Option Event → Type 0
IsNext es n m (Some event) = (slice_get es n ≡ Some event) × (m ≡ n + 1)
IsNext es n m None = m ≡ n

pub next_within : (es : List Event) (n m : ℕ) (o : Option Event) → n ≤ length es → IsNext es n m o → m ≤ length es
next_within es n m (Some event) le h = let less = (take_here es n event h.0).0 in let e = h.1 in omega (arith, less, e)
next_within es n m None le h = omega (arith, le, h)

-- so the list and the run go together a step more
pub next_came : (p : Program) (s : Store) (t : Term) (es : List Event) (n m : ℕ) (o : Option Event) (old new : Position) → take n es ≡ Events p s t old.taken → IsNext es n m o
    → GoesToEvent p s t o old new → take m es ≡ Events p s t new.taken
next_came p s t es n m (Some event) old new so_far h step = ap (λ (k : ℕ). take k es) h.1 ∙ one_more p s t es n old new so_far event h.0 step
next_came p s t es n m None old new so_far h step = ap (λ (k : ℕ). take k es) h ∙ none_more p s t es n old new so_far step

-- ## Whether an event is at a place

-- where one stands there, it is this where the two are one
pub has_event : (es : List Event) (n : ℕ) (there event : Event) (said : Type 0) → ltb n (length es) ≡ true → there ≡ get_or es n there → (said → there ≡ event) → (there ≡ event → said)
    → (said → slice_get es n ≡ Some event) × (slice_get es n ≡ Some event → said)
has_event es n there event said less is told back =
    let at : slice_get es n ≡ Some there = slice_get_read es (length es) n there refl (ltb-true n (length es) less) is in
    (λ h. at ∙ ap Some (told h), λ e. back (let k : Some there ≡ Some event = sym at ∙ e in cc))

-- where none does, it isn't this
pub has_none : (es : List Event) (n : ℕ) (event : Event) → ltb n (length es) ≡ false → (false ≡ true → slice_get es n ≡ Some event) × (slice_get es n ≡ Some event → false ≡ true)
has_none es n event past =
    (λ e. absurd (cc), λ e. let at = slice_get_past es n (ltb-false n (length es) past) in absurd (let k : None ≡ Some event = sym at ∙ e in cc))

-- ## Lines of events, and of those of a run

abbrev with_end : List Event → ℕ → Ending → List Line
with_end es n end = map line.Event es ++ line.End n end ∷ []

-- the lines up to this place are the same, and that there is another
abbrev DifferHere : List Line → List Line → ℕ → Type 0
DifferHere ls ms n = (take n ls ≡ take n ms) × (slice_get ls n ≡ slice_get ms n → ⊥)

differ_more : (l : Line) (ls ms : List Line) (n : ℕ) → DifferHere ls ms n → DifferHere (l ∷ ls) (l ∷ ms) (suc n)
differ_more l ls ms n h = (ap (λ (ks : List Line). l ∷ ks) h.0, h.1)

module _ (a b : ℕ) (x y : Ending) where
  -- the run has another event there, or the list none
  apart_here : (es : List Event) (n : ℕ) (e : Event) (rest : List Event) → n ≤ length es → (slice_get es n ≡ Some e → ⊥) → DifferHere (with_end es a x) (with_end (take n es ++ e ∷ rest) b y) n
  apart_here [] zero e rest le apart = (refl, λ is. absurd (cc))
  apart_here [] (suc n) e rest le apart = absurd (omega (arith, le))
  apart_here (z ∷ es) zero e rest le apart = (refl, λ is. apart (let same : z ≡ e = cc in ap Some same))
  apart_here (z ∷ es) (suc n) e rest le apart = differ_more (line.Event z) _ _ n (apart_here es n e rest (omega (arith, le)) apart)

  -- the run has no more events
  longer_here : (es : List Event) (n : ℕ) → n < length es → DifferHere (with_end es a x) (with_end (take n es) b y) n
  longer_here [] n less = absurd (omega (arith, less))
  longer_here (z ∷ es) zero less = (refl, λ is. absurd (cc))
  longer_here (z ∷ es) (suc n) less = differ_more (line.Event z) _ _ n (longer_here es n (omega (arith, less)))

  -- the events are the same, and the run ends otherwise
  ends_here : (es : List Event) → ((a ≡ b) × (x ≡ y) → ⊥) → DifferHere (with_end es a x) (with_end es b y) (length es)
  ends_here [] apart = (refl, λ is. apart (let m : a ≡ b = cc in m, let k : x ≡ y = cc in k))
  ends_here (z ∷ es) apart = differ_more (line.Event z) _ _ (length es) (ends_here es apart)

-- where the run of the reductions that a machine took is that of so many, its events are too
pub events_after : (q : Position) (p : Program) (s : Store) (t : Term) (steps : ℕ) → IsAfter q steps → IsSettled p s t q → Events p s t q.taken ≡ Events p s t steps
events_after q p s t steps after h = go q.stop refl after
  where
    go : (o : Option RunStop) → q.stop ≡ o → IsAfterBy o q.taken steps → Events p s t q.taken ≡ Events p s t steps
    go None e is = ap (Events p s t) is
    go (Some k) e is =
        let le = is.0 in let sum : q.taken + (steps - q.taken) ≡ steps = omega (arith, le) in
        sym (no_more_events p s t q.taken (steps - q.taken) (not_running k _ is.1 (h.stopped k e))) ∙ ap (Events p s t) sum

same_trace : (es fs : List Event) (n m : ℕ) (e f : Ending) → es ≡ fs → n ≡ m → e ≡ f → ◌≡◌ {A = Trace} (record { events = es; taken = n; ending = e }) (record { events = fs; taken = m; ending = f })
same_trace es fs n m e f events taken ending =
    ap (λ (l : List Event). let y : Trace = record { events = l; taken = n; ending = e } in y) events
    ∙ ap (λ (k : ℕ). let y : Trace = record { events = fs; taken = k; ending = e } in y) taken
    ∙ ap (λ (end : Ending). let y : Trace = record { events = fs; taken = m; ending = end } in y) ending

-- ## How a list and a run compare

module _ (p : Program) (s : Store) (t : Term) (steps : ℕ) (x : Trace) (q : Position) where
  -- the list and the run went apart
  pub differ_apart : (n : ℕ) → FollowedTo x.events p s t steps q (Apart n) → DifferAt x (trace_of p s t steps) n
  differ_apart n h =
      let r = Run p s t steps in
      let d = apart_here x.taken r.taken x.ending (ending_of r.outcome) x.events n h.1.0 h.1.1 h.0 h.1.3 in
      let e = subst (λ (es : List Event). DifferHere (lines_of x) (with_end es r.taken (ending_of r.outcome)) n) (sym h.1.2) d in
      record { before = e.0; here = e.1 }

  module _ (after : IsAfter q steps) (n : ℕ) (h : FollowedTo x.events p s t steps q (All n)) where
    all_there : take n x.events ≡ Events p s t steps
    all_there = h.1 ∙ events_after q p s t steps after h.2

    all_same : length x.events ≤ n → x.events ≡ Events p s t steps
    all_same le = sym (take_all n x.events le) ∙ all_there

    -- the list goes on
    pub differ_longer : n < length x.events → DifferAt x (trace_of p s t steps) n
    differ_longer less =
        let r = Run p s t steps in
        let d = longer_here x.taken r.taken x.ending (ending_of r.outcome) x.events n less in
        let e = subst (λ (es : List Event). DifferHere (lines_of x) (with_end es r.taken (ending_of r.outcome)) n) all_there d in
        record { before = e.0; here = e.1 }

    module _ (taken : ℕ) (counts : (Run p s t taken).taken ≡ taken) (same : taken ≡ q.taken) (ending : Ending) (is : ending ≡ ending_of (Run p s t q.taken).outcome) where
      taken_is : taken ≡ (Run p s t steps).taken
      taken_is = sym counts ∙ ap (λ (k : ℕ). (Run p s t k).taken) same ∙ ap (λ (r : RunState). r.taken) (run_after q p s t steps after h.2.stopped)

      ending_is : ending ≡ ending_of (Run p s t steps).outcome
      ending_is = is ∙ ap (λ (r : RunState). ending_of r.outcome) (run_after q p s t steps after h.2.stopped)

      -- all is the same
      pub no_differ : length x.events ≤ n → x.taken ≡ taken → x.ending ≡ ending → x ≡ trace_of p s t steps
      no_differ le counted ended = same_trace x.events (Events p s t steps) x.taken (Run p s t steps).taken x.ending (ending_of (Run p s t steps).outcome) (all_same le) (counted ∙ taken_is) (ended ∙ ending_is)

      -- the last lines aren't
      pub differ_ends : length x.events ≤ n → ((x.taken ≡ taken) × (x.ending ≡ ending) → ⊥) → DifferAt x (trace_of p s t steps) n
      differ_ends le apart =
          let r = Run p s t steps in
          let place = h.0 in
          let d = ends_here x.taken r.taken x.ending (ending_of r.outcome) x.events (λ k. apart (k.0 ∙ sym taken_is, k.1 ∙ sym ending_is)) in
          let e = subst (λ (es : List Event). DifferHere (lines_of x) (with_end es r.taken (ending_of r.outcome)) (length x.events)) (all_same le) d in
          let same_place : length x.events ≡ n = omega (arith, le, place) in
          subst (DifferAt x (trace_of p s t steps)) same_place (record { before = e.0; here = e.1 })

-- what was followed, of the events of a trace
pub followed_as : (p : Program) (s : Store) (t : Term) (steps : ℕ) (x : Trace) (q : Position) (es : List Event) (f g : Followed) → es ≡ x.events → f ≡ g
    → FollowedTo es p s t steps q f → FollowedTo x.events p s t steps q g
followed_as p s t steps x q es f g same is h = subst (FollowedTo x.events p s t steps q) is (subst (λ (l : List Event). FollowedTo l p s t steps q f) same h)
