-- Finding a serial among slots.
use Rattle.std.proofs.Common.{◌≡◌, ℕ, zero, suc, ◌+◌, ◌<◌, Bool, true, false, nat_eq, List, [], ◌∷◌, Option, Some, None, if◌then◌else◌, refl, sym, ap, ◌∙◌, arith, eqb-true, eq-eqb}
use Rattle.w_conts.specs.Slots.{slot_at, find_from, HasDistinctSerials}

-- what two equal options have is equal
pub some_is : {A : Type 0} {x y : A} → Some x ≡ Some y → x ≡ y
some_is e = cc

-- a number is equal to itself
same_true : (a : ℕ) → nat_eq a a ≡ true
same_true a = eq-eqb a a refl

module _ {T : Type 0} where
  -- equal slots have one serial
  pub serial_is : {a b : ℕ} {x y : T} → ◌≡◌ {A = Option (ℕ × T)} (Some (a, x)) (Some (b, y)) → a ≡ b
  serial_is {a} {b} {x} {y} e = let w : ◌≡◌ {A = ℕ × T} (a, x) (b, y) = some_is e in ap (λ (p : ℕ × T). p.0) w

  -- the first slot with a serial is found
  find_here : (xs : List (Option (ℕ × T))) (k a i : ℕ) (x : T) → slot_at xs i ≡ Some (a, x)
      → ((j : ℕ) (y : T) → j < i → slot_at xs j ≡ Some (a, y) → ⊥) → find_from k a xs ≡ Some (k + i, x)
  find_here [] k a i x h first = absurd cc
  find_here (None ∷ xs) k a zero x h first = absurd cc
  find_here (None ∷ xs) k a (suc i) x h first =
      find_here xs (suc k) a i x h (λ j y l e. first (suc j) y (omega arith) e) ∙ ap (λ n. Some (n, x)) (omega arith)
  find_here (Some q ∷ xs) k a zero x h first =
      let e : q ≡ (a, x) = some_is h in
      rw (e, same_true a) (ap (λ n. Some (n, x)) (omega arith))
  find_here (Some q ∷ xs) k a (suc i) x h first =
      cases (nat_eq q.0 a) refl (find_here xs (suc k) a i x h (λ j y l e. first (suc j) y (omega arith) e) ∙ ap (λ n. Some (n, x)) (omega arith))
    where
      cases : (b : Bool) → nat_eq q.0 a ≡ b → find_from (suc k) a xs ≡ Some (k + suc i, x) → (if b then Some (k, q.1) else find_from (suc k) a xs) ≡ Some (k + suc i, x)
      cases true e r = absurd (first 0 q.1 (omega arith) (let s : q.0 ≡ a = eqb-true q.0 a e in ap (λ n. Some (n, q.1)) s))
      cases false e r = r

  -- a serial that no slot has is not found
  pub find_none : (xs : List (Option (ℕ × T))) (k a : ℕ) → ((i : ℕ) (y : T) → slot_at xs i ≡ Some (a, y) → ⊥) → find_from k a xs ≡ None
  find_none [] k a h = refl
  find_none (None ∷ xs) k a h = find_none xs (suc k) a (λ i y e. h (suc i) y e)
  find_none (Some q ∷ xs) k a h = cases (nat_eq q.0 a) refl (find_none xs (suc k) a (λ i y e. h (suc i) y e))
    where
      cases : (b : Bool) → nat_eq q.0 a ≡ b → find_from (suc k) a xs ≡ None → (if b then Some (k, q.1) else find_from (suc k) a xs) ≡ None
      cases true e r = absurd (h 0 q.1 (let s : q.0 ≡ a = eqb-true q.0 a e in ap (λ n. Some (n, q.1)) s))
      cases false e r = r

  -- a key and what is kept are those of a slot with serial a, where the first slot has key k
  pub record Stands (xs : List (Option (ℕ × T))) (k a : ℕ) (q : ℕ × T) : Type 0 where
    pub at : ℕ
    pub key : q.0 ≡ k + at
    pub is : slot_at xs at ≡ Some (a, q.1)

  -- it stands one slot later behind one more
  later : (o : Option (ℕ × T)) (xs : List (Option (ℕ × T))) (k a : ℕ) (q : ℕ × T) → Stands xs (suc k) a q → Stands (o ∷ xs) k a q
  later o xs k a q s = record { at = suc s.at; key = s.key ∙ omega arith; is = s.is }

  -- what is found stands in a slot
  pub find_stands : (xs : List (Option (ℕ × T))) (k a : ℕ) (q : ℕ × T) → find_from k a xs ≡ Some q → Stands xs k a q
  find_stands [] k a q h = absurd cc
  find_stands (None ∷ xs) k a q h = later None xs k a q (find_stands xs (suc k) a q h)
  find_stands (Some p ∷ xs) k a q h = cases (nat_eq p.0 a) refl h (λ g. later (Some p) xs k a q (find_stands xs (suc k) a q g))
    where
      cases : (b : Bool) → nat_eq p.0 a ≡ b → (if b then Some (k, p.1) else find_from (suc k) a xs) ≡ Some q
          → (find_from (suc k) a xs ≡ Some q → Stands (Some p ∷ xs) k a q) → Stands (Some p ∷ xs) k a q
      cases true e h r =
          let s : p.0 ≡ a = eqb-true p.0 a e in
          let w : (k, p.1) ≡ q = some_is h in
          record { at = 0; key = ap (λ z. z.0) (sym w) ∙ omega arith; is = ap (λ n. Some (n, p.1)) s ∙ ap (λ z. Some (a, z.1)) w }
      cases false e h r = r h

  -- where no two slots have one serial, each slot is found under its serial
  pub found : (xs : List (Option (ℕ × T))) (a i : ℕ) (x : T) → HasDistinctSerials xs → slot_at xs i ≡ Some (a, x) → find_from 0 a xs ≡ Some (i, x)
  found xs a i x d h = find_here xs 0 a i x h (λ j y l e. let w : j ≡ i = d j i a y x e h in absurd (omega arith)) ∙ ap (λ n. Some (n, x)) (omega arith)

  -- so what is found is the same where the slots with a serial are the same
  pub find_same : (xs ys : List (Option (ℕ × T))) (a : ℕ) → HasDistinctSerials xs → HasDistinctSerials ys
      → ((i : ℕ) (x : T) → slot_at xs i ≡ Some (a, x) → slot_at ys i ≡ Some (a, x))
      → ((i : ℕ) (x : T) → slot_at ys i ≡ Some (a, x) → slot_at xs i ≡ Some (a, x)) → find_from 0 a ys ≡ find_from 0 a xs
  find_same xs ys a d d' to back = cases (find_from 0 a xs) refl
    where
      cases : (o : Option (ℕ × T)) → find_from 0 a xs ≡ o → find_from 0 a ys ≡ o
      cases (Some q) e =
          let s = find_stands xs 0 a q e in
          found ys a s.at q.1 d' (to s.at q.1 s.is) ∙ ap (λ n. Some (n, q.1)) (let w : s.at ≡ q.0 = omega (arith, s.key) in w)
      cases None e = find_none ys 0 a (λ i y h. let f = found xs a i y d (back i y h) in absurd (let g : None ≡ Some (i, y) = sym e ∙ f in cc))
