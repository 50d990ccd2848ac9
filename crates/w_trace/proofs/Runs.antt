-- What the events of a run say of it.
use Rattle.std.proofs.Common.{◌≡◌, ◌≢◌, ℕ, zero, suc, ◌+◌, ◌<◌, ◌≤◌, Bool, List, [], ◌∷◌, ◌++◌, length, length-append, append_assoc, Option, Some, None, is_some, option_to_list, refl, sym, ap, subst, ◌∙◌, arith}
use Rattle.std.proofs.lemmas.Grind.{flat_map-append}
use Rattle.std.proofs.lemmas.List.{append-nil, length-map}
use Rattle.w_words.specs.Words.{Each}
use Rattle.w_reduce.specs.Apart.{PlainReductionsGoApart}
use Rattle.w_reduce.specs.Program.{Program}
use Rattle.w_reduce.specs.Reduce.{reduce}
use Rattle.w_reduce.specs.Reduced.{Reduced, Went, Trapped, Limited, Ended, Stuck}
use Rattle.w_reduce.specs.Run.{Outcome, Running, Values, Traps, Limit, NoRule, RunState, after_reduction, continued, Run}
use Rattle.w_reduce.specs.Store.{Store}
use Rattle.w_reduce.specs.Terms.{Term}
use Rattle.w_once.specs.Consumptions.{emptied}
use Rattle.w_trace.specs.declared.event.Event.{Event}
use Rattle.w_trace.specs.declared.event.EventKind.{EventKind}
use Rattle.w_trace.specs.declared.event.EventKind.TheVariants.{New, Bind, Resume, Suspend, Switch, Exit}
use Rattle.w_trace.specs.Once.{Use, Consumes, Makes, uses, uses_of, consumed_by, made_by, after_uses}
use Rattle.w_trace.specs.Events.{event_of, where_went, with_step, while_running, event_after, Events, uses_if, flags_of, Leads, EventsConsume, EventsLead, EventsAreOneShot, EventsGoOn, EndedRunsHaveNoMore, address_of, AreWithin, EventsAreCounted}
use Rattle.w_trace.proofs.Uses.{Goes, forth, one_shot, after-append}
use Rattle.w_trace.proofs.UsedStores.{emptied_same}
use Rattle.w_trace.proofs.Redexes.{Tells, went, tells_reduction}

-- what an event uses, with its number
uses_same : (n : ℕ) (event : Option EventKind) → uses_of (option_to_list (with_step n event)) ≡ uses_if event
uses_same n None = refl
uses_same n (Some kind) = append-nil (uses kind)

uses-append : (es fs : List Event) → uses_of (es ++ fs) ≡ uses_of es ++ uses_of fs
uses-append es fs = flat_map-append (λ (e : Event). uses e.kind) es fs

consumed-append : (us vs : List Use) → consumed_by (us ++ vs) ≡ consumed_by us ++ consumed_by vs
consumed-append [] vs = refl
consumed-append (Consumes a ∷ us) vs = ap (λ xs. a ∷ xs) (consumed-append us vs)
consumed-append (Makes b ∷ us) vs = consumed-append us vs

-- ## What is consumed

emptied_by : (p : Program) (r : RunState) (event : Option EventKind) (d : Reduced) → Tells (uses_if event) r.store.conts d
    → consumed_by (uses_of (option_to_list (with_step (suc r.taken) (where_went d event)))) ≡ emptied r.store (after_reduction p r d).store
emptied_by p r event (Went out s t) (went h) = let same = uses_same (suc r.taken) event in rw same (sym h.emptied)
emptied_by p r event (Trapped t) h = sym (emptied_same 0 r.store.conts)
emptied_by p r event (Limited l) h = sym (emptied_same 0 r.store.conts)
emptied_by p r event (Ended vs) h = sym (emptied_same 0 r.store.conts)
emptied_by p r event Stuck h = sym (emptied_same 0 r.store.conts)

module _ (plain : PlainReductionsGoApart) where
  emptied_while : (p : Program) (r : RunState) (o : Outcome)
      → consumed_by (uses_of (option_to_list (while_running o (with_step (suc r.taken) (where_went (reduce p r.store r.term) (event_of r.store r.term)))))) ≡ emptied r.store (continued p r o).store
  emptied_while p r Running = emptied_by p r (event_of r.store r.term) (reduce p r.store r.term) (tells_reduction plain p r.store r.term)
  emptied_while p r (Values vs) = sym (emptied_same 0 r.store.conts)
  emptied_while p r (Traps t) = sym (emptied_same 0 r.store.conts)
  emptied_while p r (Limit l) = sym (emptied_same 0 r.store.conts)
  emptied_while p r NoRule = sym (emptied_same 0 r.store.conts)

  pub events_consume : EventsConsume
  events_consume p s t zero = refl
  events_consume p s t (suc n) =
      let r = Run p s t n in
      let i = events_consume p s t n in
      let step = emptied_while p r r.outcome in
      let both = uses-append (Events p s t n) (option_to_list (event_after p r)) in
      let apart = consumed-append (uses_of (Events p s t n)) (uses_of (option_to_list (event_after p r))) in
      rw both (rw apart (rw i (rw step refl)))

-- ## What is live

flags_by : (p : Program) (r : RunState) (event : Option EventKind) (d : Reduced) → Tells (uses_if event) r.store.conts d
    → after_uses (uses_of (option_to_list (with_step (suc r.taken) (where_went d event)))) (flags_of r.store.conts) ≡ Some (flags_of (after_reduction p r d).store.conts)
flags_by p r event (Went out s t) (went h) = let same = uses_same (suc r.taken) event in rw same h.by_flags
flags_by p r event (Trapped t) h = refl
flags_by p r event (Limited l) h = refl
flags_by p r event (Ended vs) h = refl
flags_by p r event Stuck h = refl

module _ (plain : PlainReductionsGoApart) where
  flags_while : (p : Program) (r : RunState) (o : Outcome)
      → after_uses (uses_of (option_to_list (while_running o (with_step (suc r.taken) (where_went (reduce p r.store r.term) (event_of r.store r.term)))))) (flags_of r.store.conts) ≡ Some (flags_of (continued p r o).store.conts)
  flags_while p r Running = flags_by p r (event_of r.store r.term) (reduce p r.store r.term) (tells_reduction plain p r.store r.term)
  flags_while p r (Values vs) = refl
  flags_while p r (Traps t) = refl
  flags_while p r (Limit l) = refl
  flags_while p r NoRule = refl

  pub events_lead : EventsLead
  events_lead p s t zero = refl
  events_lead p s t (suc n) =
      let r = Run p s t n in
      let both = uses-append (Events p s t n) (option_to_list (event_after p r)) in
      let apart = after-append (uses_of (Events p s t n)) (uses_of (option_to_list (event_after p r))) (flags_of s.conts) in
      let i = events_lead p s t n in
      rw both (rw apart (rw i (flags_while p r r.outcome)))

  pub events_are_one_shot : EventsAreOneShot
  events_are_one_shot p s t n none =
      let lead = events_lead p s t n in
      let first : flags_of s.conts ≡ [] = ap flags_of none in
      one_shot (uses_of (Events p s t n)) (flags_of (Run p s t n).store.conts)
      (subst (λ (flags : List Bool). after_uses (uses_of (Events p s t n)) flags ≡ Some (flags_of (Run p s t n).store.conts)) first lead)

-- ## More reductions

-- what is more behind what goes on
more_append : (xs ys zs all : List Event) → all ≡ xs ++ ys → all ++ zs ≡ xs ++ (ys ++ zs)
more_append xs ys zs all e = ap (λ (es : List Event). es ++ zs) e ∙ append_assoc xs ys zs

-- the events of more reductions begin with those of fewer
pub events_go_on : EventsGoOn
events_go_on p s t n zero = ([], ap (Events p s t) (let e : n + 0 ≡ n = omega arith in e) ∙ sym (append-nil (Events p s t n)))
events_go_on p s t n (suc k) =
    let i = events_go_on p s t n k in
    let more = option_to_list (event_after p (Run p s t (n + k))) in (
      i.0 ++ more,
      ap (Events p s t) (let e : n + suc k ≡ suc (n + k) = omega arith in e) ∙ more_append (Events p s t n) i.0 more (Events p s t (n + k)) i.1,
    )

-- it isn't running, so it takes no further reduction
stays : (p : Program) (r : RunState) (o : Outcome) → o ≢ Running → continued p r o ≡ r
stays p r Running h = absurd (h refl)
stays p r (Values vs) h = refl
stays p r (Traps t) h = refl
stays p r (Limit name) h = refl
stays p r NoRule h = refl

-- nor has it an event
no_event_while : (o : Outcome) (event : Option Event) → o ≢ Running → while_running o event ≡ None
no_event_while Running event h = absurd (h refl)
no_event_while (Values vs) event h = refl
no_event_while (Traps t) event h = refl
no_event_while (Limit name) event h = refl
no_event_while NoRule event h = refl

-- a run that isn't running stays as it is
pub settled : (p : Program) (s : Store) (t : Term) (n k : ℕ) → (Run p s t n).outcome ≢ Running → Run p s t (n + k) ≡ Run p s t n
settled p s t n zero h = ap (Run p s t) (let e : n + 0 ≡ n = omega arith in e)
settled p s t n (suc k) h =
    ap (Run p s t) (let e : n + suc k ≡ suc (n + k) = omega arith in e)
    ∙ (ap (λ (r : RunState). continued p r r.outcome) (settled p s t n k h) ∙ stays p (Run p s t n) (Run p s t n).outcome h)

no_event : (p : Program) (r : RunState) → r.outcome ≢ Running → option_to_list (event_after p r) ≡ []
no_event p r h = ap option_to_list (no_event_while r.outcome (with_step (suc r.taken) (where_went (reduce p r.store r.term) (event_of r.store r.term))) h)

-- so its events are all there
pub no_more_events : EndedRunsHaveNoMore
no_more_events p s t n zero h = ap (Events p s t) (let e : n + 0 ≡ n = omega arith in e)
no_more_events p s t n (suc k) h =
    let here = Run p s t n in
    let last : option_to_list (event_after p (Run p s t (n + k))) ≡ [] = ap (λ (r : RunState). option_to_list (event_after p r)) (settled p s t n k h) ∙ no_event p here h in
    ap (Events p s t) (let e : n + suc k ≡ suc (n + k) = omega arith in e)
    ∙ (ap (λ (es : List Event). Events p s t (n + k) ++ es) last ∙ (append-nil (Events p s t (n + k)) ∙ no_more_events p s t n k h))

-- ## How many there are, and which addresses they use

-- an event makes one continuation at most
makes_one : (kind : EventKind) → length (made_by (uses kind)) ≤ 1
makes_one (New b) = omega arith
makes_one (Bind a b) = omega arith
makes_one (Resume a) = omega arith
makes_one (Suspend x b) = omega arith
makes_one (Switch a x b) = omega arith
makes_one Exit = omega arith

-- what is used is there, or is the next
uses_below : (n : ℕ) (flags : List Bool) (kind : EventKind) → length flags ≤ n → Goes flags (uses kind) → Each (λ (u : Use). address_of u < suc n) (uses kind)
uses_below n flags (New b) few g = let next = g.in_order.0 in (omega (arith, few, next), tt)
uses_below n flags (Bind a b) few g = let there = g.made_before.0 in let next = g.in_order.0 in (omega (arith, few, there), (omega (arith, few, next), tt))
uses_below n flags (Resume a) few g = let there = g.made_before.0 in (omega (arith, few, there), tt)
uses_below n flags (Suspend x b) few g = let next = g.in_order.0 in (omega (arith, few, next), tt)
uses_below n flags (Switch a x b) few g = let there = g.made_before.0 in let next = g.in_order.0 in (omega (arith, few, there), (omega (arith, few, next), tt))
uses_below n flags Exit few g = tt

-- n reductions came to this run, and to these events
record Counted (n : ℕ) (r : RunState) (es : List Event) : Type 0 where
  taken : r.taken ≤ n
  conts : length r.store.conts ≤ n
  few : length es ≤ n
  within : AreWithin n es

-- they are within one reduction more
wider : (n : ℕ) (es : List Event) → AreWithin n es → AreWithin (suc n) es
wider n [] h = tt
wider n (e ∷ es) h =
    let e_in = h.0 in let last = e_in.to_last in
    (record { from_one = e_in.from_one; to_last = omega (arith, last); addresses = addresses_wider (uses e.kind) e_in.addresses }, wider n es h.1)
  where
    addresses_wider : (us : List Use) → Each (λ (u : Use). address_of u < n) us → Each (λ (u : Use). address_of u < suc n) us
    addresses_wider [] h = tt
    addresses_wider (u ∷ us) h = let less = h.0 in (omega (arith, less), addresses_wider us h.1)

-- and so are two lists of events, one behind the other
within_append : (n : ℕ) (es fs : List Event) → AreWithin n es → AreWithin n fs → AreWithin n (es ++ fs)
within_append n [] fs h k = k
within_append n (e ∷ es) fs h k = (h.0, within_append n es fs h.1 k)

-- a reduction with these events, one at most
one_more : (n : ℕ) (r r' : RunState) (es fs : List Event) → Counted n r es → r'.taken ≤ suc n → length r'.store.conts ≤ suc n → length fs ≤ 1 → AreWithin (suc n) fs → Counted (suc n) r' (es ++ fs)
one_more n r r' es fs h taken conts one within = record {
  taken = taken;
  conts = conts;
  few = let l = length-append es fs in let few = h.few in omega (arith, l, few, one);
  within = within_append (suc n) es fs (wider n es h.within) within;
}

-- a reduction with no event, that leaves the continuations as they were
none_more : (n : ℕ) (r r' : RunState) (es : List Event) → Counted n r es → r'.taken ≤ suc r.taken → r'.store.conts ≡ r.store.conts → Counted (suc n) r' (es ++ [])
none_more n r r' es h one same =
    let taken = h.taken in let conts = h.conts in let long = ap length same in
    one_more n r r' es [] h (omega (arith, taken, one)) (omega (arith, conts, long)) (omega arith) tt

-- one that goes on has the event of its redex
went_on : (p : Program) (n : ℕ) (r : RunState) (es : List Event) (event : Option EventKind) (out : List ℕ) (s : Store) (t : Term) → Counted n r es → Leads (uses_if event) r.store.conts s.conts
    → Counted (suc n) (after_reduction p r (Went out s t)) (es ++ option_to_list (with_step (suc r.taken) event))
went_on p n r es None out s t h l =
    let taken = h.taken in let conts = h.conts in let made = l.made in
    one_more n r (after_reduction p r (Went out s t)) es [] h (omega (arith, taken)) (omega (arith, conts, made)) (omega arith) tt
went_on p n r es (Some kind) out s t h l =
    let taken = h.taken in let conts = h.conts in let made = l.made in let one = makes_one kind in let long = length-map r.store.conts is_some in
    let below = uses_below n (flags_of r.store.conts) kind (omega (arith, conts, long)) (forth (uses kind) (flags_of r.store.conts) (flags_of s.conts) l.by_flags) in
    one_more n r (after_reduction p r (Went out s t)) es (record { step = suc r.taken; kind = kind } ∷ []) h (omega (arith, taken)) (omega (arith, conts, made, one)) (omega arith)
    (record { from_one = omega arith; to_last = omega (arith, taken); addresses = below }, tt)

-- each reduction
counted_by : (p : Program) (n : ℕ) (r : RunState) (es : List Event) (event : Option EventKind) (d : Reduced) → Counted n r es → Tells (uses_if event) r.store.conts d
    → Counted (suc n) (after_reduction p r d) (es ++ option_to_list (with_step (suc r.taken) (where_went d event)))
counted_by p n r es event (Went out s t) h (went l) = went_on p n r es event out s t h l
counted_by p n r es event (Trapped t) h tells = none_more n r (after_reduction p r (Trapped t)) es h (omega arith) refl
counted_by p n r es event (Limited l) h tells = none_more n r (after_reduction p r (Limited l)) es h (omega arith) refl
counted_by p n r es event (Ended vs) h tells = none_more n r r es h (omega arith) refl
counted_by p n r es event Stuck h tells = none_more n r r es h (omega arith) refl

module _ (plain : PlainReductionsGoApart) where
  counted_while : (p : Program) (n : ℕ) (r : RunState) (es : List Event) (o : Outcome) → Counted n r es
      → Counted (suc n) (continued p r o) (es ++ option_to_list (while_running o (with_step (suc r.taken) (where_went (reduce p r.store r.term) (event_of r.store r.term)))))
  counted_while p n r es Running h = counted_by p n r es (event_of r.store r.term) (reduce p r.store r.term) h (tells_reduction plain p r.store r.term)
  counted_while p n r es (Values vs) h = none_more n r r es h (omega arith) refl
  counted_while p n r es (Traps t) h = none_more n r r es h (omega arith) refl
  counted_while p n r es (Limit l) h = none_more n r r es h (omega arith) refl
  counted_while p n r es NoRule h = none_more n r r es h (omega arith) refl

  counted : (p : Program) (s : Store) (t : Term) (n : ℕ) → s.conts ≡ [] → Counted n (Run p s t n) (Events p s t n)
  counted p s t zero none = record { taken = omega arith; conts = let long = ap length none in omega (arith, long); few = omega arith; within = tt }
  counted p s t (suc n) none = counted_while p n (Run p s t n) (Events p s t n) (Run p s t n).outcome (counted p s t n none)

  -- n reductions have n events at most, each of one of them, and use addresses below n
  pub events_are_within : EventsAreCounted
  events_are_within p s t n none = let h = counted p s t n none in (h.few, h.within)
