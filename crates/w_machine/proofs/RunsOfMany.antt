-- Runs of many reductions.
use Rattle.std.proofs.Common.{◌≡◌, ℕ, zero, suc, ◌+◌, ◌-◌, ◌<◌, ◌≤◌, Bool, true, false, is_some, List, [], ◌++◌, Option, Some, None, refl, sym, ap, subst, ◌∙◌, arith, append-nil, append_assoc}
use Rattle.w_outside.proofs.Growth.{grew_more}
use Rattle.w_reduce.specs.Store.{Store}
use Rattle.w_reduce.specs.Terms.{Term}
use Rattle.w_reduce.specs.Program.{Program}
use Rattle.w_reduce.specs.Run.{Outcome, Running, Values, Traps, Limit, NoRule, RunState, continued, Run}
use Rattle.w_configuration.specs.declared.stop.RunStop.{RunStop}
use Rattle.w_configuration.specs.declared.stop.RunStop.TheVariants as run_stop
use Rattle.w_machine.specs.Beginning.{Begins}
use Rattle.w_machine.specs.Position.{Position, StopsWith, counted, is_fault, PrintedBetween, PrintedAtMost, PrintedIf, PrintedUpTo, RunPrints, HasTakenBy, MayStopAt, StepsFrom, Steps, StopsIfEnded, RunsFrom, Runs}
use Rattle.w_machine.proofs.StoppedMachines.{counts_one, output_grows}

-- ## A run that doesn't go on stays

stays : (p : Program) (r : RunState) (o : Outcome) → (o ≡ Running → ⊥) → continued p r o ≡ r
stays p r Running h = absurd (h refl)
stays p r (Values vs) h = refl
stays p r (Traps t) h = refl
stays p r (Limit name) h = refl
stays p r NoRule h = refl

module _ (p : Program) (s : Store) (t : Term) where
  settled : (n k : ℕ) → ((Run p s t n).outcome ≡ Running → ⊥) → Run p s t (k + n) ≡ Run p s t n
  settled n zero h = ap (Run p s t) (let e : 0 + n ≡ n = omega arith in e)
  settled n (suc k) h =
      let e : suc k + n ≡ suc (k + n) = omega arith in
      ap (Run p s t) e ∙ ap (λ (r : RunState). continued p r r.outcome) (settled n k h) ∙ stays p (Run p s t n) (Run p s t n).outcome h

  -- as far as one likes
  pub settled_at : (n m : ℕ) → n ≤ m → ((Run p s t n).outcome ≡ Running → ⊥) → Run p s t m ≡ Run p s t n
  settled_at n m le h = ap (Run p s t) (let e : m ≡ (m - n) + n = omega (arith, le) in e) ∙ settled n (m - n) h

  -- ## What is printed

  output_far : (n k : ℕ) → (text : List ℕ) × ((Run p s t (k + n)).output ≡ (Run p s t n).output ++ text)
  output_far n zero = ([], ap (λ (x : ℕ). (Run p s t x).output) (let e : 0 + n ≡ n = omega arith in e) ∙ sym (append-nil (Run p s t n).output))
  output_far n (suc k) =
      let far = output_far n k in
      let one = output_grows p s t (k + n) in (
        far.0 ++ one.0,
        ap (λ (x : ℕ). (Run p s t x).output) (let e : suc k + n ≡ (k + n) + 1 = omega arith in e) ∙ one.1 ∙ ap (λ (l : List ℕ). l ++ one.0) far.1
            ∙ append_assoc (Run p s t n).output far.0 one.0,
      )

-- one print after another
pub printed_more : {q r u : RunState} {a b c : Option (List ℕ)} → PrintedBetween q r a b → PrintedBetween r u b c → PrintedBetween q u a c
printed_more {q = q} {a = a} {b = b} {c = c} h k = record {
  text = h.text ++ k.text;
  is = k.is ∙ ap (λ (l : List ℕ). l ++ k.text) h.is ∙ append_assoc q.output h.text k.text;
  grew = grew_more a b c h.text k.text h.grew k.grew;
}

-- and a first part of one, which is a first part of all that is printed as far as one likes
part_more : {q r u : RunState} {a b c : Option (List ℕ)} (rest : List ℕ) → PrintedBetween q r a b → (k : PrintedAtMost r u b c) → (v : RunState) → v.output ≡ u.output ++ rest → PrintedAtMost q v a c
part_more {q = q} {r = r} {u = u} {a = a} {b = b} {c = c} rest h k v far = record {
  text = h.text ++ (k.text ++ rest);
  is = far ∙ ap (λ (l : List ℕ). l ++ rest) (k.is ∙ ap (λ (l : List ℕ). l ++ k.text) h.is ∙ append_assoc q.output h.text k.text)
      ∙ append_assoc q.output (h.text ++ k.text) rest ∙ ap (λ (l : List ℕ). q.output ++ l) (append_assoc h.text k.text rest);
  grew = record {
    part = h.text ++ k.grew.part;
    front = record {
      rest = k.grew.front.rest ++ rest;
      joined = append_assoc h.text k.grew.part (k.grew.front.rest ++ rest)
          ∙ ap (λ (l : List ℕ). h.text ++ l) (sym (append_assoc k.grew.part k.grew.front.rest rest) ∙ ap (λ (l : List ℕ). l ++ rest) k.grew.front.joined);
    };
    grew = grew_more a b c h.text k.grew.part h.grew k.grew.grew;
  };
}

-- what was printed before a fault is a first part of what the run prints later
pub printed_part : (p : Program) (s : Store) (t : Term) (from to far : ℕ) (a c : Option (List ℕ)) → to < far → PrintedUpTo (Run p s t) from to a c
    → PrintedAtMost (Run p s t from) (Run p s t far) a c
printed_part p s t from to far a c lt h =
    let rest = output_far p s t (to + 1) (far - (to + 1)) in
    let e : far - (to + 1) + (to + 1) ≡ far = omega (arith, lt) in
    part_more rest.0 h.whole h.begun (Run p s t far) (ap (λ (n : ℕ). (Run p s t n).output) (sym e) ∙ rest.1)

-- ## Where memory may run out

-- want of memory counts no reduction, so that it stops a run where the run then stands
may_stop_there : (k : RunStop) (run : ℕ → RunState) (n m : ℕ) → n + counted k ≡ m → MayStopAt k (run n).term → MayStopAt k (run m).term
may_stop_there run_stop.Ended run n m e h = tt
may_stop_there (run_stop.Limit name) run n m e h = tt
may_stop_there (run_stop.Trapped x) run n m e h = tt
may_stop_there run_stop.WriteFault run n m e h = tt
may_stop_there run_stop.OutOfMemory run n m e h = let same : n ≡ m = omega (arith, e) in subst (λ (i : ℕ). MayStopAt run_stop.OutOfMemory (run i).term) same h

-- a fault counts none
fault_counts_none : (k : RunStop) → is_fault k ≡ true → counted k ≡ 0
fault_counts_none run_stop.Ended f = absurd (cc)
fault_counts_none (run_stop.Limit name) f = absurd (cc)
fault_counts_none (run_stop.Trapped x) f = absurd (cc)
fault_counts_none run_stop.WriteFault f = refl
fault_counts_none run_stop.OutOfMemory f = refl

-- so fewer were taken than were asked for
taken_before : (k : RunStop) (i steps : ℕ) → i < steps → HasTakenBy (is_fault k) (i + counted k) steps
taken_before run_stop.Ended i steps lt = omega (arith, lt)
taken_before (run_stop.Limit name) i steps lt = omega (arith, lt)
taken_before (run_stop.Trapped x) i steps lt = omega (arith, lt)
taken_before run_stop.WriteFault i steps lt = omega (arith, lt)
taken_before run_stop.OutOfMemory i steps lt = omega (arith, lt)

-- what is no fault may stop it anywhere
no_fault_stops : (k : RunStop) (t : Term) → is_fault k ≡ false → MayStopAt k t
no_fault_stops run_stop.Ended t f = tt
no_fault_stops (run_stop.Limit name) t f = tt
no_fault_stops (run_stop.Trapped x) t f = tt
no_fault_stops run_stop.WriteFault t f = tt
no_fault_stops run_stop.OutOfMemory t f = absurd (cc)

-- ## The steps of a run

-- p is where the run began, and i steps took a reduction
abbrev At : Position → ℕ → Position
At old i = record old { taken = old.taken + i }

step_from : (old l new : Position) (i : ℕ) (r : Option RunStop) (b a : Option (List ℕ)) → l ≡ At old i → old.stop ≡ None → Steps l r new b a → StepsFrom None (At old i) r new b a
step_from old l new i r b a at none h =
    subst (λ (o : Option RunStop). StepsFrom o (At old i) r new b a) none (subst (λ (x : Position). Steps x r new b a) at h)

module _ (old l new : Position) (i steps : ℕ) (first b a : Option (List ℕ)) (at : l ≡ At old i) (none : old.stop ≡ None)
    (printed : (p : Program) (s : Store) (t : Term) → Begins old.origin p s t → PrintedBetween (Run p s t old.taken) (Run p s t (old.taken + i)) first b) where
  one_further : old.taken + i + 1 ≡ old.taken + (i + 1)
  one_further = omega arith

  -- it took one more
  pub took_more : (r : Option RunStop) → false ≡ is_some r → Steps l r new b a → new ≡ At old (i + 1)
  took_more None e h = (step_from old l new i None b a at none h).0 ∙ ap (λ (n : ℕ). let q : Position = record old { taken = n } in q) one_further
  took_more (Some k) e h = absurd (cc)

  pub printed_further : (r : Option RunStop) → false ≡ is_some r → Steps l r new b a
      → (p : Program) (s : Store) (t : Term) → Begins old.origin p s t → PrintedBetween (Run p s t old.taken) (Run p s t (old.taken + (i + 1))) first a
  printed_further None e h p s t begins =
      subst (λ (n : ℕ). PrintedBetween (Run p s t old.taken) (Run p s t n) first a) one_further
      (printed_more (printed p s t begins) ((step_from old l new i None b a at none h).1 p s t begins).1)
  printed_further (Some k) e h p s t begins = absurd (cc)

  -- ## It was stopped

  not_running : (k : RunStop) (o : Outcome) → is_fault k ≡ false → StopsWith k o → o ≡ Running → ⊥
  not_running run_stop.Ended o f h e = let g = h.1 in absurd (cc)
  not_running (run_stop.Limit name) o f h e = absurd (cc)
  not_running (run_stop.Trapped t) o f h e = absurd (cc)
  not_running run_stop.WriteFault o f h e = absurd (cc)
  not_running run_stop.OutOfMemory o f h e = absurd (cc)

  fault_stops : (k : RunStop) (o : Outcome) → is_fault k ≡ true → StopsWith k o
  fault_stops run_stop.Ended o f = absurd (cc)
  fault_stops (run_stop.Limit name) o f = absurd (cc)
  fault_stops (run_stop.Trapped t) o f = absurd (cc)
  fault_stops run_stop.WriteFault o f = tt
  fault_stops run_stop.OutOfMemory o f = tt

  stop_at_last : (k : RunStop) (f : Bool) → is_fault k ≡ f → (c : ℕ) → c ≡ counted k → c ≤ 1 → i < steps → (p : Program) (s : Store) (t : Term) → Begins old.origin p s t
      → StopsWith k (Run p s t (old.taken + i + c)).outcome → PrintedIf f (Run p s t (old.taken + i)) (Run p s t (old.taken + i + 1)) b a
      → StopsWith k (Run p s t (old.taken + steps)).outcome × RunPrints f (Run p s t) old.taken (i + c) steps first a
  stop_at_last k true f c count one lt p s t begins stops print =
      let none = fault_counts_none k f in
      let e : old.taken + i ≡ old.taken + (i + c) = omega (arith, count, none) in (
        fault_stops k (Run p s t (old.taken + steps)).outcome f,
        subst (λ (n : ℕ). PrintedUpTo (Run p s t) old.taken n first a) e (record { between = b; whole = printed p s t begins; begun = print }),
      )
  stop_at_last k false f c count one lt p s t begins stops print =
      let apart = not_running k (Run p s t (old.taken + i + c)).outcome f stops in
      let last = settled_at p s t (old.taken + i + c) (old.taken + steps) (omega (arith, lt, one)) apart in
      let next = settled_at p s t (old.taken + i + c) (old.taken + i + 1) (omega (arith, lt, one)) apart in (
        subst (λ (q : RunState). StopsWith k q.outcome) (sym last) stops,
        subst (λ (q : RunState). PrintedBetween (Run p s t old.taken) q first a) (next ∙ sym last) (printed_more (printed p s t begins) print),
      )

  run_from : (r : Option RunStop) → true ≡ is_some r → i < steps → StepsFrom None (At old i) r new b a → RunsFrom None old steps r new first a
  run_from None e lt h = absurd (cc)
  run_from (Some k) e lt h =
      let one = counts_one k in
      let n : old.taken + i + counted k ≡ old.taken + (i + counted k) = omega arith in (
        i + counted k,
        taken_before k i steps lt,
        h.0 ∙ ap (λ (x : ℕ). let q : Position = record old { taken = x; stop = Some k } in q) n,
        λ p s t begins.
            stop_at_last k (is_fault k) refl (counted k) refl one lt p s t begins (h.1 p s t begins).0 (h.1 p s t begins).1,
        λ p s t begins. may_stop_there k (Run p s t) (old.taken + i) (old.taken + (i + counted k)) n (h.1 p s t begins).2,
      )

  -- a step that stopped stops the run
  pub run_stopped : (r : Option RunStop) → true ≡ is_some r → i < steps → Steps l r new b a → Runs old steps r new first a
  run_stopped r e lt h = subst (λ (o : Option RunStop). RunsFrom o old steps r new first a) (sym none) (run_from r e lt (step_from old l new i r b a at none h))

  -- ## All steps were taken

  stops_from : (r : Option RunStop) → i ≡ steps → StopsIfEnded (At old i) r new → RunsFrom None old steps r new first b
  stops_from None e h = (
    i,
    e,
    h.0,
    λ p s t begins. (
      subst (λ (n : ℕ). (Run p s t (old.taken + n)).outcome ≡ Running) e (h.2 p s t begins),
      subst (λ (n : ℕ). PrintedBetween (Run p s t old.taken) (Run p s t (old.taken + n)) first b) e (printed p s t begins),
    ),
    λ p s t begins. tt,
  )
  stops_from (Some k) e h = (
    i,
    subst (λ (f : Bool). HasTakenBy f i steps) (sym h.1) (let le : i ≤ steps = omega (arith, e) in le),
    h.0,
    λ p s t begins. (
      subst (λ (n : ℕ). StopsWith k (Run p s t (old.taken + n)).outcome) e (h.2 p s t begins),
      subst (λ (f : Bool). RunPrints f (Run p s t) old.taken i steps first b) (sym h.1)
          (subst (λ (n : ℕ). PrintedBetween (Run p s t old.taken) (Run p s t (old.taken + n)) first b) e (printed p s t begins)),
    ),
    λ p s t begins. no_fault_stops k (Run p s t (old.taken + i)).term h.1,
  )

  -- and what it answers then is what the run came to
  pub run_stops : (r : Option RunStop) → i ≡ steps → StopsIfEnded l r new → Runs old steps r new first b
  run_stops r e h =
      subst (λ (o : Option RunStop). RunsFrom o old steps r new first b) (sym none) (stops_from r e (subst (λ (x : Position). StopsIfEnded x r new) at h))

-- ## Where an outcome is kept

kept_runs : (old : Position) (steps : ℕ) (k : Option RunStop) (b : Option (List ℕ)) → true ≡ is_some k → RunsFrom k old steps k old b b
kept_runs old steps None b e = absurd (cc)
kept_runs old steps (Some k) b e = (refl, refl, refl)

-- it is answered again
pub stopped_runs_stay : (old : Position) (steps : ℕ) (k : Option RunStop) (b : Option (List ℕ)) → k ≡ old.stop → true ≡ is_some k → Runs old steps k old b b
stopped_runs_stay old steps k b same e = subst (λ (o : Option RunStop). RunsFrom o old steps k old b b) same (kept_runs old steps k b e)

-- what is answered is no fault
pub no_write_fault : (old new : Position) (r : Option RunStop) → StopsIfEnded old r new → r ≡ Some run_stop.WriteFault → ⊥
no_write_fault old new None h e = absurd (cc)
no_write_fault old new (Some k) h e = let same : k ≡ run_stop.WriteFault = cc in let f : is_fault k ≡ false = h.1 in let g = ap is_fault same in absurd (cc)
