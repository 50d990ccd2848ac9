-- From a simulation of single steps to whole runs.
use Rattle.std.proofs.Common.{◌≡◌, ◌≢◌, ℕ, zero, suc, ◌+◌, ◌*◌, ◌-◌, ◌≤◌, ◌<◌, List, [], ◌++◌, ◌⊎◌, inl, inr, Some, refl, sym, ap, ◌∙◌, subst, arith, add-zero, add-suc, append_assoc, append-nil}
use Rattle.std.proofs.Math.Nat.{eq-or-lt_of_le}
use Rattle.std.proofs.lemmas.Bool.{cases_lt}
use Rattle.following.specs.Follows.{after, Outcome, Going, Value, Fault, End, Is, Limit, IsPrefix, Follows}
use Rattle.following.specs.Simulation.{Machine, Source, Path, here, on, Matched, does, stops, Simulation, Starts, starts}

going_or_not : {V F : Type 0} (o : Outcome V F) → (o ≡ Going) ⊎ (o ≢ Going)
going_or_not Going = inl refl
going_or_not (Value v) = inr (λ e. cc e)
going_or_not (Fault f) = inr (λ e. cc e)

prefix_refl : (xs : List ℕ) → IsPrefix xs xs
prefix_refl xs = ([], sym (append-nil xs))

prefix_trans : (xs ys zs : List ℕ) → IsPrefix xs ys → IsPrefix ys zs → IsPrefix xs zs
prefix_trans xs ys zs (us, p) (vs, q) = (us ++ vs, q ∙ ap (λ (l : List ℕ). l ++ vs) p ∙ append_assoc xs us vs)

module _ (V F L : Type 0) (c : Source V F L) (w : Machine V F L) (r : Simulation V F L c w) (s0 : c.State) (m0 : w.State) where
  -- the script after n steps, and the machine after n reductions
  abbrev eval : ℕ → c.State
  eval n = after c.next s0 n

  abbrev run : ℕ → w.State
  run n = after w.next m0 n

  -- What the run has come to after N reductions, as the script tells it.
  data Place (N : ℕ) : Type 0 where
    -- a step is under way
    amid : (n : ℕ) → w.ending (run N) ≡ Some (Is Going) → w.out (run N) ≡ c.printed (eval n) → Place N
    -- the run is over as the script is after n steps
    at_end : (n : ℕ) → w.ending (run N) ≡ Some (Is (c.outcome (eval n))) → w.out (run N) ≡ c.printed (eval n) → Place N
    -- it met a limit
    at_limit : (n : ℕ) (l : L) → w.ending (run N) ≡ Some (Limit l) → w.out (run N) ≡ c.printed (eval n) → c.passes l (eval n) → Place N

  -- a run that is over stays as it is
  stays : (N : ℕ) (e : End V F L) → w.ending (run N) ≡ Some e → e ≢ Is Going → (k : ℕ) → run (N + k) ≡ run N
  stays N e ending over zero = rw (add-zero N) refl
  stays N e ending over (suc k) =
      let same = stays N e ending over k in
      rw (add-suc N k) (r.machine_rests (run (N + k)) e (ap w.ending same ∙ ending) over ∙ same)

  -- and keeps what it printed
  keeps : (N k : ℕ) → IsPrefix (w.out (run N)) (w.out (run (N + k)))
  keeps N zero = rw (add-zero N) (prefix_refl (w.out (run N)))
  keeps N (suc k) = rw (add-suc N k) (prefix_trans (w.out (run N)) (w.out (run (N + k))) (w.out (run (suc (N + k)))) (keeps N k) (r.machine_keeps (run (N + k))))

  -- the places of all numbers below N are known
  abbrev Below : ℕ → Type 0
  Below N = (K : ℕ) → K < N → Place K

  one_more : (N : ℕ) → Below N → Place N → Below (suc N)
  one_more N below place K h =
      elim (eq-or-lt_of_le {n = K} {m = N} (omega arith)) [ inl e ↦ subst (λ (j : ℕ). Place j) (sym e) place | inr less ↦ below K less ]

  -- along a path from where the run is after N reductions, which prints what the script prints by step n or by step n'
  record Walked (N k : ℕ) (m : w.State) : Type 0 where
    there : m ≡ run (N + k)
    places : Below (N + k)

  walk : (n n' N : ℕ) {m m' : w.State} {k : ℕ} → m ≡ run N → Path w (c.printed (eval n)) (c.printed (eval n')) m k m' → Below N → Walked N k m'
  walk n n' N e here below = record { there = rw (add-zero N) e; places = rw (add-zero N) below }
  walk n n' N e (on {k = k} ending (inl printed) path) below =
      let place : Place N = amid n (ap w.ending (sym e) ∙ ending) (ap w.out (sym e) ∙ printed) in
      let rest = walk n n' (suc N) (ap w.next e) path (one_more N below place) in
      let q : suc N + k ≡ N + suc k = omega arith in
      record { there = rest.there ∙ ap run q; places = subst (λ (j : ℕ). Below j) q rest.places }
  walk n n' N e (on {k = k} ending (inr printed) path) below =
      let place : Place N = amid n' (ap w.ending (sym e) ∙ ending) (ap w.out (sym e) ∙ printed) in
      let rest = walk n n' (suc N) (ap w.next e) path (one_more N below place) in
      let q : suc N + k ≡ N + suc k = omega arith in
      record { there = rest.there ∙ ap run q; places = subst (λ (j : ℕ). Below j) q rest.places }

  -- Where the run is when the script has taken n steps.
  data Reached (n : ℕ) : Type 0 where
    -- it stands for the script
    stands : (N : ℕ) → n ≤ N → r.Related (eval n) (run N) → N + r.potential (eval n) (run N) ≤ 64 + 64 * n → Below N → Reached n
    -- it is over, as the script is
    ended : (N : ℕ) → c.outcome (eval n) ≢ Going → w.ending (run N) ≡ Some (Is (c.outcome (eval n))) → w.out (run N) ≡ c.printed (eval n)
        → N ≤ 64 + 64 * n → Below N → Reached n
    -- it met a limit, which the script may meet by step i
    stopped : (N i : ℕ) (l : L) → w.ending (run N) ≡ Some (Limit l) → w.out (run N) ≡ c.printed (eval i) → c.passes l (eval i)
        → N ≤ 64 + 64 * n → Below N → Reached n

  next_limit : (n N k : ℕ) (m' : w.State) (l : L) → Walked N k m' → w.ending m' ≡ Some (Limit l)
      → ((w.out m' ≡ c.printed (eval n)) × c.passes l (eval n)) ⊎ ((w.out m' ≡ c.printed (eval (suc n))) × c.passes l (eval (suc n)))
      → N + k ≤ 64 + 64 * suc n → Reached (suc n)
  next_limit n N k m' l walked ending (inl (printed, passes)) bound =
      stopped (N + k) n l (ap w.ending (sym walked.there) ∙ ending) (ap w.out (sym walked.there) ∙ printed) passes bound walked.places
  next_limit n N k m' l walked ending (inr (printed, passes)) bound =
      stopped (N + k) (suc n) l (ap w.ending (sym walked.there) ∙ ending) (ap w.out (sym walked.there) ∙ printed) passes bound walked.places

  next_step : (n N : ℕ) → n ≤ N → N + r.potential (eval n) (run N) ≤ 64 + 64 * n → Below N
      → Matched c w r.Related r.potential (eval n) (run N) → Reached (suc n)
  next_step n N le bound below (does k m' path related cost) =
      let walked = walk n (suc n) N refl path below in
      let less : N + suc k + r.potential (eval (suc n)) m' ≤ 64 + 64 * suc n = omega arith in
      let P : w.State → Type 0 = λ m. r.Related (eval (suc n)) m in
      let Q : w.State → Type 0 = λ m. N + suc k + r.potential (eval (suc n)) m ≤ 64 + 64 * suc n in
      stands (N + suc k) (omega arith) (subst P walked.there related) (subst Q walked.there less) walked.places
  next_step n N le bound below (stops k m' l path ending may cost) =
      next_limit n N k m' l (walk n (suc n) N refl path below) ending may (omega arith)

  next_ended : (n N : ℕ) → c.outcome (eval n) ≢ Going → w.ending (run N) ≡ Some (Is (c.outcome (eval n))) → w.out (run N) ≡ c.printed (eval n)
      → N ≤ 64 + 64 * n → Below N → Reached (suc n)
  next_ended n N over ending printed bound below =
      let e : eval (suc n) ≡ eval n = r.source_rests (eval n) over in
      let P : c.State → Type 0 = λ s. c.outcome s ≢ Going in
      ended N (subst P (sym e) over) (ending ∙ ap (λ (s : c.State). Some (Is (c.outcome s))) (sym e)) (printed ∙ ap c.printed (sym e)) (omega arith) below

  onward : (n : ℕ) → Reached n → Reached (suc n)
  onward n (stands N le related bound below) =
      elim (going_or_not (c.outcome (eval n))) [
        | inl going ↦ next_step n N le bound below (r.matches related going)
        | inr over ↦ next_ended n N over (r.same_end related) (r.same_out related) (omega arith) below
      ]
  onward n (ended N over ending printed bound below) = next_ended n N over ending printed bound below
  onward n (stopped N i l ending printed passes bound below) = stopped N i l ending printed passes (omega arith) below

  begins : Starts c w r s0 m0 → Reached zero
  begins (starts k m' path related cost) =
      let walked = walk zero zero zero refl path (λ K h. absurd (omega arith)) in
      let P : w.State → Type 0 = λ m. r.Related (eval zero) m in
      let Q : w.State → Type 0 = λ m. zero + k + r.potential (eval zero) m ≤ 64 + 64 * zero in
      let less : zero + k + r.potential (eval zero) m' ≤ 64 + 64 * zero = omega arith in
      stands (zero + k) (omega arith) (subst P walked.there related) (subst Q walked.there less) walked.places

  reached : Starts c w r s0 m0 → (n : ℕ) → Reached n
  reached start zero = begins start
  reached start (suc n) = onward n (reached start n)

  -- a run that is over stays as it is, from K on
  later : (K N : ℕ) → K ≤ N → (e : End V F L) → w.ending (run K) ≡ Some e → e ≢ Is Going → run N ≡ run K
  later K N le e ending done =
      let q : K + (N - K) ≡ N = omega arith in
      subst (λ (j : ℕ). run j ≡ run K) q (stays K e ending done (N - K))

  kept_by : (K N : ℕ) → K ≤ N → IsPrefix (w.out (run K)) (w.out (run N))
  kept_by K N le =
      let q : K + (N - K) ≡ N = omega arith in
      subst (λ (j : ℕ). IsPrefix (w.out (run K)) (w.out (run j))) q (keeps K (N - K))

  -- where the run is after N reductions: by step N + 1 the script has gone past, or one of the two is over
  placed : Starts c w r s0 m0 → (N : ℕ) → Place N
  placed start N = find N (reached start (suc N))
    where
      find : (n : ℕ) → Reached (suc n) → Place n
      find n (stands K le related bound below) = below n (omega arith)
      find n (ended K done ending printed bound below) = elim (cases_lt n K) [
        | inl less ↦ below n less
        | inr le ↦ (let same = later K n le (Is (c.outcome (eval (suc n)))) ending (λ e. done (cc e)) in
            at_end (suc n) (ap w.ending same ∙ ending) (ap w.out same ∙ printed))
      ]
      find n (stopped K i l ending printed passes bound below) = elim (cases_lt n K) [
        | inl less ↦ below n less
        | inr le ↦ (let same = later K n le (Limit l) ending (λ e. cc e) in
            at_limit i l (ap w.ending same ∙ ending) (ap w.out same ∙ printed) passes)
      ]

  -- ## The clauses

  -- what the script shows after n steps is shown in time
  Shows : ℕ → List ℕ → End V F L → Type 0
  Shows n out e = ((l : L) × (e ≡ Limit l)) ⊎ (IsPrefix (c.printed (eval n)) out × (c.outcome (eval n) ≢ Going → e ≡ Is (c.outcome (eval n))))

  in_time : (N n : ℕ) → 64 * suc n ≤ N → Reached n → (e : End V F L) → w.ending (run N) ≡ Some e → Shows n (w.out (run N)) e
  unfolding Shows
  in_time N n late (stands K le related bound below) e ending =
      let k : K ≤ N = omega arith in
      let shown : IsPrefix (c.printed (eval n)) (w.out (run N)) = subst (λ (o : List ℕ). IsPrefix o (w.out (run N))) (r.same_out related) (kept_by K N k) in
      inr (
        shown,
        λ done. let same = later K N k (Is (c.outcome (eval n))) (r.same_end related) (λ e. done (cc e)) in
            cc (ending, ap w.ending same, r.same_end related),
      )
  in_time N n late (ended K done ending' printed bound below) e ending =
      let k : K ≤ N = omega arith in
      let same = later K N k (Is (c.outcome (eval n))) ending' (λ e. done (cc e)) in
      let shown : IsPrefix (c.printed (eval n)) (w.out (run N)) = subst (λ (o : List ℕ). IsPrefix o (w.out (run N))) printed (kept_by K N k) in
      inr (shown, λ done'. cc (ending, ap w.ending same, ending'))
  in_time N n late (stopped K i l ending' printed passes bound below) e ending =
      let k : K ≤ N = omega arith in
      let same = later K N k (Limit l) ending' (λ e. cc e) in
      inl (l, cc (ending, ap w.ending same, ending'))

  -- what follows from the place after N reductions
  record Told (N : ℕ) : Type 0 where
    end : End V F L
    is : w.ending (run N) ≡ Some end
    follows : Follows V F L c.State eval c.printed c.outcome c.passes N (w.out (run N)) end

  tell : Starts c w r s0 m0 → (N : ℕ) → Place N → Told N
  unfolding Shows
  tell start N (amid n ending printed) = record {
    end = Is Going;
    is = ending;
    follows = record {
      in_time = λ n late. in_time N n late (reached start n) (Is Going) ending;
      prints = (n, printed);
      ends = λ o done e. absurd (done (cc e));
      limited = λ l e. absurd (cc e);
    };
  }
  tell start N (at_end n ending printed) = record {
    end = Is (c.outcome (eval n));
    is = ending;
    follows = record {
      in_time = λ n' late. in_time N n' late (reached start n') (Is (c.outcome (eval n))) ending;
      prints = (n, printed);
      ends = λ o done e. (n, cc e, printed);
      limited = λ l e. absurd (cc e);
    };
  }
  tell start N (at_limit n l ending printed passes) = record {
    end = Limit l;
    is = ending;
    follows = record {
      in_time = λ n' late. in_time N n' late (reached start n') (Limit l) ending;
      prints = (n, printed);
      ends = λ o done e. absurd (cc e);
      limited = λ l' e. (n, printed, subst (λ (j : L). c.passes j (eval n)) (cc e) passes);
    };
  }

  -- after each number of reductions the run follows the script
  pub follows_after : Starts c w r s0 m0 → (N : ℕ)
      → (e : End V F L) × (w.ending (run N) ≡ Some e) × Follows V F L c.State eval c.printed c.outcome c.passes N (w.out (run N)) e
  follows_after start N = let t = tell start N (placed start N) in (t.end, t.is, t.follows)
