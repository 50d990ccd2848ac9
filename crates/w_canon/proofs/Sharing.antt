-- Counting one node more.
use Rattle.std.proofs.Common.{◌≡◌, ◌⊎◌, inl, inr, ℕ, zero, suc, ◌+◌, ◌<◌, ◌≤◌, List, [], ◌∷◌, length, get_or, replicate, set, Option, Some, None, slice_get, refl, sym, ap, subst, ◌∙◌, arith}
use Rattle.std.proofs.lemmas.Bool.{cases_lt}
use Rattle.std.proofs.lemmas.List.{length-set, length-replicate, get_or-set_same, get_or-set_other}
use Rattle.std.proofs.lemmas.Option.{slice_get_within, slice_get-get_or}
use Rattle.w_canon.specs.Forest.{IsParent, IsForest}
use Rattle.w_canon.specs.Shares.{sum_to, counted, AreShared}

-- ## Sums of the first numbers

sum_more : (k : ℕ) (us : List ℕ) → sum_to (suc k) us ≡ sum_to k us + get_or us k 0
sum_more zero [] = refl
sum_more zero (u ∷ us) = omega arith
sum_more (suc k) [] = refl
sum_more (suc k) (u ∷ us) = let h = sum_more k us in omega (arith, h)

sum_set : (k p v : ℕ) (us : List ℕ) → p < k → k ≤ length us → sum_to k (set us p v) + get_or us p 0 ≡ sum_to k us + v
sum_set zero p v us lt le = absurd (omega arith)
sum_set (suc k) p v [] lt le = absurd (omega arith)
sum_set (suc k) zero v (u ∷ us) lt le = omega arith
sum_set (suc k) (suc p) v (u ∷ us) lt le = let h = sum_set k p v us (omega arith) (omega arith) in omega (arith, h)

sum_least : (k p : ℕ) (us : List ℕ) → p < k → get_or us p 0 ≤ sum_to k us
sum_least zero p us lt = absurd (omega arith)
sum_least (suc k) p [] lt = omega arith
sum_least (suc k) zero (u ∷ us) lt = omega arith
sum_least (suc k) (suc p) (u ∷ us) lt = let h = sum_least k p us (omega arith) in omega (arith, h)

pub sum_zeros : (k n : ℕ) → sum_to k (replicate n 0) ≡ 0
sum_zeros zero n = refl
sum_zeros (suc k) zero = refl
sum_zeros (suc k) (suc n) = let h = sum_zeros k n in let e : sum_to (suc k) (replicate (suc n) 0) ≡ 0 + sum_to k (replicate n 0) = refl in omega (arith, e, h)

-- ## No node was counted

pub none_shared : (ps : List (Option ℕ)) (n : ℕ) → n ≡ length ps → AreShared ps (replicate n 0) (replicate n 0) 0 n
none_shared ps n e = record {
  long_under = length-replicate n 0 ∙ e;
  long_offsets = length-replicate n 0 ∙ e;
  few = let s = sum_zeros n n in omega (arith, s);
  inside = λ x o le is. absurd (let w = slice_get_within ps x o is in omega (arith, w));
  apart = λ x y o le lt is there. absurd (let w = slice_get_within ps x o is in omega (arith, w));
}

-- ## A node is counted

module _ (ps : List (Option ℕ)) (us os : List ℕ) (roots k : ℕ) (forest : IsForest ps) (h : AreShared ps us os roots (suc k)) where
  -- its count, and that of its parent, are few
  pub room_under : (p : ℕ) → IsParent ps k p → get_or us p 0 + get_or us k 0 + 1 ≤ length ps
  room_under p is =
      let before = forest k p is in
      let more = sum_more k us in
      let least = sum_least k p us (omega (arith, before)) in
      let few = h.few in
      omega (arith, more, least, few)

  pub room_roots : roots + get_or us k 0 + 1 ≤ length ps
  room_roots =
      let more = sum_more k us in
      let few = h.few in
      omega (arith, more, few)

  pub share_under : (p before size : ℕ) → slice_get ps k ≡ Some (Some p) → before ≡ get_or us p 0 → size ≡ get_or us k 0 + 1
      → AreShared ps (set us p (before + size)) (set os k before) roots k
  share_under p before size is b s =
      let less = forest k p is in
      let within = slice_get_within ps k (Some p) is in
      let lu = h.long_under in
      let lo = h.long_offsets in
      record {
        long_under = length-set us p (before + size) ∙ lu;
        long_offsets = length-set os k before ∙ lo;
        few = let more = sum_more k us in let changed = sum_set k p (before + size) us (omega (arith, less)) (omega (arith, within, lu)) in let few = h.few in omega (arith, more, changed, few, b, s);
        inside = λ x o le there_is. inside_by x o le there_is (cases_lt k x);
        apart = λ x y o le lt a c. apart_by x y o le lt a c (cases_lt k x);
      }
    where
      grown : (o : Option ℕ) → counted us roots o ≤ counted (set us p (before + size)) roots o
      grown None = omega arith
      grown (Some q) = elim (cases_lt p q) [
        | inl l ↦ (let e = get_or-set_other us p q (before + size) 0 (λ e. omega (arith, e)) in omega (arith, e))
        | inr l ↦ elim (cases_lt q p) [
          | inl m ↦ (let e = get_or-set_other us p q (before + size) 0 (λ e. omega (arith, e)) in omega (arith, e))
          | inr m ↦
              let same : q ≡ p = omega arith in
              let less = forest k p is in
              let within = slice_get_within ps k (Some p) is in
              let lu = h.long_under in
              let e = get_or-set_same us p (before + size) 0 (omega (arith, less, within, lu)) in
              subst (λ z. get_or us z 0 ≤ get_or (set us p (before + size)) z 0) (sym same) (omega (arith, e, b))
        ]
      ]

      inside_by : (x : ℕ) (o : Option ℕ) → k ≤ x → slice_get ps x ≡ Some o → (k < x) ⊎ (x ≤ k)
          → get_or (set os k before) x 0 + get_or (set us p (before + size)) x 0 + 1 ≤ counted (set us p (before + size)) roots o
      inside_by x o le at (inl lt) =
          let less = forest k p is in
          let i = h.inside x o (omega arith) at in
          let u = get_or-set_other us p x (before + size) 0 (λ e. omega (arith, e, less)) in
          let f = get_or-set_other os k x before 0 (λ e. omega (arith, e)) in
          let g = grown o in
          omega (arith, i, u, f, g)
      inside_by x o le at (inr ge) =
          let less = forest k p is in
          let within = slice_get_within ps k (Some p) is in
          let same : x ≡ k = omega arith in
          let lu = h.long_under in
          let lo = h.long_offsets in
          let slot : o ≡ Some p = let e = ap (slice_get ps) same in cc in
          let u = get_or-set_other us p x (before + size) 0 (λ e. omega (arith, e, less)) in
          let read = ap (λ z. get_or us z 0) same in
          let f = ap (λ z. get_or (set os k before) z 0) same in
          let here = get_or-set_same os k before 0 (omega (arith, within, lo)) in
          let mine = get_or-set_same us p (before + size) 0 (omega (arith, less, within, lu)) in
          subst (λ z. get_or (set os k before) x 0 + get_or (set us p (before + size)) x 0 + 1 ≤ counted (set us p (before + size)) roots z) (sym slot)
          (omega (arith, u, read, f, here, mine, s))

      apart_by : (x y : ℕ) (o : Option ℕ) → k ≤ x → x < y → slice_get ps x ≡ Some o → slice_get ps y ≡ Some o → (k < x) ⊎ (x ≤ k)
          → get_or (set os k before) y 0 + get_or (set us p (before + size)) y 0 + 1 ≤ get_or (set os k before) x 0
      apart_by x y o le lt a c (inl more) =
          let less = forest k p is in
          let i = h.apart x y o (omega arith) lt a c in
          let u = get_or-set_other us p y (before + size) 0 (λ e. omega (arith, e, less)) in
          let f = get_or-set_other os k x before 0 (λ e. omega (arith, e)) in
          let g = get_or-set_other os k y before 0 (λ e. omega (arith, e)) in
          omega (arith, i, u, f, g)
      apart_by x y o le lt a c (inr ge) =
          let less = forest k p is in
          let within = slice_get_within ps k (Some p) is in
          let same : x ≡ k = omega arith in
          let lo = h.long_offsets in
          let slot : o ≡ Some p = let e = ap (slice_get ps) same in cc in
          let i = h.inside y (Some p) (omega arith) (c ∙ ap Some slot) in
          let u = get_or-set_other us p y (before + size) 0 (λ e. omega (arith, e, less)) in
          let g = get_or-set_other os k y before 0 (λ e. omega (arith, e)) in
          let f = ap (λ z. get_or (set os k before) z 0) same in
          let here = get_or-set_same os k before 0 (omega (arith, within, lo)) in
          omega (arith, i, u, g, f, here, b)

  pub share_root : (before size : ℕ) → slice_get ps k ≡ Some None → before ≡ roots → size ≡ get_or us k 0 + 1
      → AreShared ps us (set os k before) (before + size) k
  share_root before size is b s = record {
    long_under = h.long_under;
    long_offsets = length-set os k before ∙ h.long_offsets;
    few = let more = sum_more k us in let few = h.few in omega (arith, more, few, b, s);
    inside = λ x o le at. inside_by x o le at (cases_lt k x);
    apart = λ x y o le lt a c. apart_by x y o le lt a c (cases_lt k x);
  }
    where
      grown : (o : Option ℕ) → counted us roots o ≤ counted us (before + size) o
      grown None = omega (arith, b)
      grown (Some q) = omega arith

      inside_by : (x : ℕ) (o : Option ℕ) → k ≤ x → slice_get ps x ≡ Some o → (k < x) ⊎ (x ≤ k)
          → get_or (set os k before) x 0 + get_or us x 0 + 1 ≤ counted us (before + size) o
      inside_by x o le at (inl lt) =
          let i = h.inside x o (omega arith) at in
          let f = get_or-set_other os k x before 0 (λ e. omega (arith, e)) in
          let g = grown o in
          omega (arith, i, f, g)
      inside_by x o le at (inr ge) =
          let within = slice_get_within ps k None is in
          let same : x ≡ k = omega arith in
          let lo = h.long_offsets in
          let slot : o ≡ None = let e = ap (slice_get ps) same in cc in
          let read = ap (λ z. get_or us z 0) same in
          let f = ap (λ z. get_or (set os k before) z 0) same in
          let here = get_or-set_same os k before 0 (omega (arith, within, lo)) in
          subst (λ z. get_or (set os k before) x 0 + get_or us x 0 + 1 ≤ counted us (before + size) z) (sym slot)
          (omega (arith, read, f, here, s))

      apart_by : (x y : ℕ) (o : Option ℕ) → k ≤ x → x < y → slice_get ps x ≡ Some o → slice_get ps y ≡ Some o → (k < x) ⊎ (x ≤ k)
          → get_or (set os k before) y 0 + get_or us y 0 + 1 ≤ get_or (set os k before) x 0
      apart_by x y o le lt a c (inl more) =
          let i = h.apart x y o (omega arith) lt a c in
          let f = get_or-set_other os k x before 0 (λ e. omega (arith, e)) in
          let g = get_or-set_other os k y before 0 (λ e. omega (arith, e)) in
          omega (arith, i, f, g)
      apart_by x y o le lt a c (inr ge) =
          let within = slice_get_within ps k None is in
          let same : x ≡ k = omega arith in
          let lo = h.long_offsets in
          let slot : o ≡ None = let e = ap (slice_get ps) same in cc in
          let i = h.inside y None (omega arith) (c ∙ ap Some slot) in
          let g = get_or-set_other os k y before 0 (λ e. omega (arith, e)) in
          let f = ap (λ z. get_or (set os k before) z 0) same in
          let here = get_or-set_same os k before 0 (omega (arith, within, lo)) in
          omega (arith, i, g, f, here, b)

-- ## As a program reads it

-- the parent of a node, as it was read
pub slot_is : (ps : List (Option ℕ)) (k : ℕ) (o : Option ℕ) → k < length ps → get_or ps k None ≡ o → slice_get ps k ≡ Some o
slot_is ps k o lt e = slice_get-get_or ps k None lt ∙ ap Some e
