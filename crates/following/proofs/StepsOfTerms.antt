-- From a simulation between steps of terms to one between configurations, and so to whole runs.
use Rattle.std.proofs.Common.{◌≡◌, ◌≢◌, ℕ, suc, ◌+◌, ◌≤◌, List, [], ◌++◌, ◌⊎◌, inl, inr, Some, refl, sym, ap, ◌∙◌, subst, arith, append-nil}
use Rattle.following.specs.Follows.{after, Outcome, Going, Value, Fault, End, Is, Limit, Follows}
use Rattle.following.specs.Simulation.{Machine, Source, Path, here, on, Matched, does, stops, Simulation, starts}
use Rattle.following.specs.Steps.{Stepped, Goes, Returns, Faults, Evaled, came, go_on, step_on, evaluation, evaluated, Reduced, ending_before, Reducing, Reductions, none, silent, prints, StepMatched, goes, returns, faults, stops_before, stops_after, StepSimulation}
use Rattle.following.proofs.WholeRuns.{follows_after}

path_more : {V F L : Type 0} (w : Machine V F L) (before behind : List ℕ) {m m' : w.State} {k : ℕ} → Path w before behind m k m'
    → w.ending m' ≡ Some (Is Going) → (w.out m' ≡ before) ⊎ (w.out m' ≡ behind) → Path w before behind m (suc k) (w.next m')
path_more w before behind here ending out = on ending out here
path_more w before behind (on ending' out' path) ending out = on ending' out' (path_more w before behind path ending out)

path_wider : {V F L : Type 0} (w : Machine V F L) (before behind : List ℕ) {m m' : w.State} {k : ℕ} → Path w before before m k m' → Path w before behind m k m'
path_wider w before behind here = here
path_wider w before behind (on ending (inl out) path) = on ending (inl out) (path_wider w before behind path)
path_wider w before behind (on ending (inr out) path) = on ending (inl out) (path_wider w before behind path)

either_of : {a b x y : List ℕ} → a ≡ b → (b ≡ x) ⊎ (b ≡ y) → (a ≡ x) ⊎ (a ≡ y)
either_of e (inl f) = inl (e ∙ f)
either_of e (inr f) = inr (e ∙ f)

module _ (V F L S C : Type 0) (step : S → Stepped V F S) (passes : L → S → Type 0) (reduce : C → Reduced V F L C)
    (w : Machine V F L) (d : Reducing w C reduce) (r : StepSimulation step passes reduce) where
  abbrev source : Source V F L
  source = evaluation step passes

  -- ## Paths of the machine

  record Arrived (before behind : List ℕ) (m : w.State) (k : ℕ) (z : C) : Type 0 where
    to : w.State
    path : Path w before behind m k to
    term_is : d.term to ≡ z
    out_is : w.out to ≡ behind
    ending_is : w.ending to ≡ ending_before (reduce z)

  arrive : (before behind now : List ℕ) (m : w.State) {x z : C} {o : List ℕ} {k : ℕ} → d.term m ≡ x → w.out m ≡ now → (now ≡ before) ⊎ (now ≡ behind)
      → now ++ o ≡ behind → w.ending m ≡ ending_before (reduce x) → Reductions reduce x o k z → Arrived before behind m k z
  arrive before behind now m t out seen last ending none =
      record { to = m; path = here; term_is = t; out_is = out ∙ sym (append-nil now) ∙ last; ending_is = ending }
  arrive before behind now m t out seen last ending (silent {y = y} e rest) =
      let going : w.ending m ≡ Some (Is Going) = ending ∙ ap ending_before e in
      let next = d.went m [] y going (ap reduce t ∙ e) in
      let more = arrive before behind now (w.next m) next.0 (next.1 ∙ append-nil (w.out m) ∙ out) seen last next.2 rest in
      record { to = more.to; path = on {m' = more.to} going (either_of out seen) more.path; term_is = more.term_is; out_is = more.out_is; ending_is = more.ending_is }
  arrive before behind now m t out seen last ending (prints {y = y} {o = o} e rest) =
      let going : w.ending m ≡ Some (Is Going) = ending ∙ ap ending_before e in
      let next = d.went m o y going (ap reduce t ∙ e) in
      let more = arrive before behind behind (w.next m) next.0 (next.1 ∙ ap (λ (l : List ℕ). l ++ o) out ∙ last) (inr refl) (append-nil behind) next.2 rest in
      record { to = more.to; path = on {m' = more.to} going (either_of out seen) more.path; term_is = more.term_is; out_is = more.out_is; ending_is = more.ending_is }

  -- ## The relation of configurations

  data Stands (s : Evaled V F S) (m : w.State) : Type 0 where
    live : s.outcome ≡ Going → r.Related s.term (d.term m) → w.out m ≡ s.printed → w.ending m ≡ Some (Is Going) → Stands s m
    done : s.outcome ≢ Going → w.out m ≡ s.printed → w.ending m ≡ Some (Is s.outcome) → Stands s m

  potential_at : Outcome V F → S → C → ℕ
  potential_at Going s x = r.potential s x
  potential_at (Value v) s x = 0
  potential_at (Fault f) s x = 0

  potential : Evaled V F S → w.State → ℕ
  potential s m = potential_at s.outcome s.term (d.term m)

  -- a machine whose term stands for a script's goes on
  first : {x y : C} {o : List ℕ} {k : ℕ} → Reductions reduce x o k y → ending_before (reduce y) ≡ Some (Is Going) → ending_before (reduce x) ≡ Some (Is Going)
  first none e = e
  first (silent q rest) e = ap ending_before q
  first (prints q rest) e = ap ending_before q

  first_of_more : {x y : C} {o : List ℕ} {k : ℕ} → Reductions reduce x o (suc k) y → ending_before (reduce x) ≡ Some (Is Going)
  first_of_more (silent q rest) = ap ending_before q
  first_of_more (prints q rest) = ap ending_before q

  alive : {s : S} {x : C} → StepMatched step passes reduce r.Related r.potential s x → ending_before (reduce x) ≡ Some (Is Going)
  alive (goes o s' k y e path related cost) = first_of_more path
  alive (returns v k y e path value cost) = first_of_more path
  alive (faults f k y e path trap cost) = first path (ap ending_before trap)
  alive (stops_before l k y path limit may cost) = first path (ap ending_before limit)
  alive (stops_after l o s' k y e path limit may cost) = first path (ap ending_before limit)

  -- ## One step

  match_here : Evaled V F S → w.State → Type 0
  match_here s m = Matched source w Stands potential s m

  -- the script's configuration after a step that came to `t`, and the machine's
  comes : (s t : Evaled V F S) (m m' : w.State) (k : ℕ) → step_on step s ≡ t → Path w s.printed t.printed m (suc k) m' → Stands t m'
      → suc k + potential t m' ≤ 64 + potential s m → match_here s m
  unfolding match_here
  comes s t m m' k e path stands cost =
      let P : Evaled V F S → Type 0 = λ q. Path w s.printed q.printed m (suc k) m' in
      let Q : Evaled V F S → Type 0 = λ q. Stands q m' in
      let R : Evaled V F S → Type 0 = λ q. suc k + potential q m' ≤ 64 + potential s m in
      does k m' (subst P (sym e) path) (subst Q (sym e) stands) (subst R (sym e) cost)

  -- it met a limit, before the step or after it
  met : (s t : Evaled V F S) (m m' : w.State) (k : ℕ) (l : L) → step_on step s ≡ t → Path w s.printed t.printed m k m' → w.ending m' ≡ Some (Limit l)
      → ((w.out m' ≡ s.printed) × passes l s.term) ⊎ ((w.out m' ≡ t.printed) × passes l t.term) → k ≤ 64 + potential s m → match_here s m
  unfolding match_here
  met s t m m' k l e path ending may cost =
      let P : Evaled V F S → Type 0 = λ q. Path w s.printed q.printed m k m' in
      let Q : Evaled V F S → Type 0 = λ q. ((w.out m' ≡ s.printed) × passes l s.term) ⊎ ((w.out m' ≡ q.printed) × passes l q.term) in
      stops k m' l (subst P (sym e) path) ending (subst Q (sym e) may) cost

  stepped : (s : Evaled V F S) (t : Stepped V F S) → s.outcome ≡ Going → step s.term ≡ t → step_on step s ≡ came s t
  stepped s t going e = ap (λ (o : Outcome V F). go_on step s o) going ∙ ap (came s) e

  potential_going : (s : Evaled V F S) (m : w.State) → s.outcome ≡ Going → potential s m ≡ r.potential s.term (d.term m)
  unfolding potential potential_at
  potential_going s m going = ap (λ (o : Outcome V F). potential_at o s.term (d.term m)) going

  match_step : (s : Evaled V F S) (m : w.State) → s.outcome ≡ Going → w.out m ≡ s.printed → w.ending m ≡ ending_before (reduce (d.term m))
      → StepMatched step passes reduce r.Related r.potential s.term (d.term m) → match_here s m
  unfolding potential potential_at
  match_step s m going out ending (goes o s' k y e path related cost) =
      let a = arrive s.printed (s.printed ++ o) s.printed m refl out (inl refl) refl ending path in
      let P : C → Type 0 = λ x. r.Related s' x in
      let now : w.ending a.to ≡ Some (Is Going) = a.ending_is ∙ alive (r.matches related) in
      let q = potential_going s m going in
      let less : suc k + r.potential s' (d.term a.to) ≤ 64 + potential s m = rw (q, a.term_is) cost in
      comes s (came s (Goes o s')) m a.to k (stepped s (Goes o s') going e) a.path (live refl (subst P (sym a.term_is) related) a.out_is now) less
  match_step s m going out ending (returns v k y e path value cost) =
      let a = arrive s.printed s.printed s.printed m refl out (inl refl) (append-nil s.printed) ending path in
      let q = potential_going s m going in
      comes s (came s (Returns v)) m a.to k (stepped s (Returns v) going e) a.path (done (λ f. cc f) a.out_is (a.ending_is ∙ ap ending_before value)) (rw q (omega arith))
  match_step s m going out ending (faults f k y e path trap cost) =
      let a = arrive s.printed s.printed s.printed m refl out (inl refl) (append-nil s.printed) ending path in
      let q = potential_going s m going in
      let now : w.ending a.to ≡ Some (Is Going) = a.ending_is ∙ ap ending_before trap in
      let next = d.stopped a.to (Some (Is (Fault f))) now (λ g. cc g) (ap reduce a.term_is ∙ trap) in
      comes s (came s (Faults f)) m (w.next a.to) k (stepped s (Faults f) going e) (path_more w s.printed s.printed a.path now (inl a.out_is))
      (done (λ g. cc g) (next.0 ∙ a.out_is) next.1) (rw q (omega arith))
  match_step s m going out ending (stops_before l k y path limit may cost) =
      let a = arrive s.printed s.printed s.printed m refl out (inl refl) (append-nil s.printed) ending path in
      let q = potential_going s m going in
      let now : w.ending a.to ≡ Some (Is Going) = a.ending_is ∙ ap ending_before limit in
      let next = d.stopped a.to (Some (Limit l)) now (λ g. cc g) (ap reduce a.term_is ∙ limit) in
      let t = step_on step s in
      met s t m (w.next a.to) (suc k) l refl (path_wider w s.printed t.printed (path_more w s.printed s.printed a.path now (inl a.out_is)))
      next.1 (inl (next.0 ∙ a.out_is, may)) (rw q cost)
  match_step s m going out ending (stops_after l o s' k y e path limit may cost) =
      let a = arrive s.printed (s.printed ++ o) s.printed m refl out (inl refl) refl ending path in
      let q = potential_going s m going in
      let now : w.ending a.to ≡ Some (Is Going) = a.ending_is ∙ ap ending_before limit in
      let next = d.stopped a.to (Some (Limit l)) now (λ g. cc g) (ap reduce a.term_is ∙ limit) in
      met s (came s (Goes o s')) m (w.next a.to) (suc k) l (stepped s (Goes o s') going e) (path_more w s.printed (s.printed ++ o) a.path now (inr a.out_is))
      next.1 (inr (next.0 ∙ a.out_is, may)) (rw q cost)

  source_rests : (s : Evaled V F S) → s.outcome ≢ Going → step_on step s ≡ s
  source_rests s over = rests_at s.outcome refl
    where
      rests_at : (o : Outcome V F) → s.outcome ≡ o → go_on step s o ≡ s
      rests_at Going e = absurd (over e)
      rests_at (Value v) e = refl
      rests_at (Fault f) e = refl

  stands_out : {s : Evaled V F S} {m : w.State} → Stands s m → w.out m ≡ s.printed
  stands_out (live going related out ending) = out
  stands_out (done over out ending) = out

  stands_ending : {s : Evaled V F S} {m : w.State} → Stands s m → w.ending m ≡ Some (Is s.outcome)
  stands_ending {s = s} (live going related out ending) = ending ∙ ap (λ (o : Outcome V F). Some (Is o)) (sym going)
  stands_ending (done over out ending) = ending

  stands_matches : {s : Evaled V F S} {m : w.State} → Stands s m → s.outcome ≡ Going → match_here s m
  stands_matches {s = s} {m = m} (live going related out ending) e =
      match_step s m going out (ending ∙ sym (alive (r.matches related))) (r.matches related)
  stands_matches (done over out ending) e = absurd (over e)

  -- the simulation of configurations
  pub simulation : Simulation V F L source w
  unfolding match_here
  simulation = record {
    Related = Stands;
    potential = potential;
    source_rests = source_rests;
    machine_rests = d.rests;
    machine_keeps = d.keeps;
    same_out = stands_out;
    same_end = stands_ending;
    matches = stands_matches;
  }

  -- The run from x0 follows the script from s0, where x0 comes to stand for s0 by a few reductions.
  pub follows_term : (s0 : S) (m0 : w.State) (k : ℕ) (y : C) → w.out m0 ≡ [] → w.ending m0 ≡ ending_before (reduce (d.term m0))
      → Reductions reduce (d.term m0) [] k y → r.Related s0 y → k + r.potential s0 y ≤ 64 → (N : ℕ)
      → (e : End V F L) × (w.ending (after w.next m0 N) ≡ Some e)
      × Follows V F L (Evaled V F S) (after (step_on step) (evaluated s0)) (λ q. q.printed) (λ q. q.outcome) (λ l q. passes l q.term) N (w.out (after w.next m0 N)) e
  unfolding simulation potential potential_at
  follows_term s0 m0 k y out ending path related cost N =
      let s : Evaled V F S = evaluated s0 in
      let a = arrive [] [] [] m0 refl out (inl refl) refl ending path in
      let P : C → Type 0 = λ x. r.Related s0 x in
      let stands : Stands s a.to = live refl (subst P (sym a.term_is) related) a.out_is (a.ending_is ∙ alive (r.matches related)) in
      let less : k + r.potential s0 (d.term a.to) ≤ 64 = rw a.term_is cost in
      follows_after V F L source w simulation s m0 (starts k a.to a.path stands less) N
