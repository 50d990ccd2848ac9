-- The entries that slots stand for.
use Rattle.std.proofs.Common.{◌≡◌, ◌≢◌, ℕ, zero, suc, ◌<◌, List, [], ◌∷◌, ◌++◌, length, Option, None, refl, sym, ap, ◌∙◌, arith, inl, inr, length-append, ◌⊎◌}
use Rattle.std.proofs.lemmas.Bool.{cases_lt}
use Rattle.std.proofs.lemmas.List.{get_or_append_left, set-append_left}
use Rattle.std.proofs.Math.Seq.{get_or-append_seam, set-append_seam}
use Rattle.std.specs.Prelude.{slice_index_or, slice_set}
use Rattle.w_conts.specs.Conts.{entry_at}
use Rattle.w_conts.specs.Slots.{find_from, entries_of}

-- a number below n + 1 is below n, or n itself
up_to : (a n : ℕ) → a < suc n → (a < n) ⊎ (a ≡ n)
up_to a n h = elim (cases_lt a n) [ inl l ↦ inl l | inr g ↦ inr (omega arith) ]

module _ {T : Type 0} where
  -- there are as many entries as continuations were made
  pub entries_long : (xs : List (Option (ℕ × T))) (n : ℕ) → length (entries_of xs n) ≡ n
  entries_long xs zero = refl
  entries_long xs (suc n) = omega (arith, entries_long xs n, length-append (entries_of xs n) (find_from 0 n xs ∷ []))

  -- the entries are the same where the same is found at each address
  pub entries_same : (xs ys : List (Option (ℕ × T))) (n : ℕ) → ((a : ℕ) → a < n → find_from 0 a ys ≡ find_from 0 a xs) → entries_of ys n ≡ entries_of xs n
  entries_same xs ys zero h = refl
  entries_same xs ys (suc n) h = rw (entries_same xs ys n (λ a l. h a (omega arith)), h n (omega arith)) refl

  -- the entry at an address is what is found under it
  pub entry_found : (xs : List (Option (ℕ × T))) (n a : ℕ) → a < n → entry_at (entries_of xs n) a ≡ find_from 0 a xs
  entry_found xs zero a h = absurd (omega arith)
  entry_found xs (suc n) a h = elim (up_to a n h) [
    | inl l ↦ get_or_append_left (entries_of xs n) (find_from 0 n xs ∷ []) None a (omega (arith, entries_long xs n)) ∙ entry_found xs n a l
    | inr e ↦ ap (λ k. slice_index_or (entries_of xs n ++ find_from 0 n xs ∷ []) k None) (let w : a ≡ length (entries_of xs n) = omega (arith, entries_long xs n) in w)
        ∙ get_or-append_seam (entries_of xs n) (find_from 0 n xs) [] None ∙ ap (λ k. find_from 0 k xs) (sym e)
  ]

  -- one entry is gone where nothing is found at its address any more, and the same at each other
  pub entries_set : (xs ys : List (Option (ℕ × T))) (n a : ℕ) → a < n → find_from 0 a ys ≡ None
      → ((b : ℕ) → b < n → b ≢ a → find_from 0 b ys ≡ find_from 0 b xs) → entries_of ys n ≡ slice_set (entries_of xs n) a None
  entries_set xs ys zero a h none same = absurd (omega arith)
  entries_set xs ys (suc n) a h none same = elim (up_to a n h) [
    | inl l ↦ ap (λ (es : List (Option (ℕ × T))). es ++ find_from 0 n ys ∷ []) (entries_set xs ys n a l none (λ b k ne. same b (omega arith) ne))
        ∙ ap (λ (o : Option (ℕ × T)). slice_set (entries_of xs n) a None ++ o ∷ []) (same n (omega arith) (λ e. let w : n ≡ a = e in omega arith))
        ∙ sym (set-append_left (entries_of xs n) (find_from 0 n xs ∷ []) a None (omega (arith, entries_long xs n)))
    | inr e ↦ ap (λ (es : List (Option (ℕ × T))). es ++ find_from 0 n ys ∷ []) (entries_same xs ys n (λ b k. same b (omega arith) (λ w. omega arith)))
        ∙ ap (λ (o : Option (ℕ × T)). entries_of xs n ++ o ∷ []) (ap (λ k. find_from 0 k ys) (sym e) ∙ none)
        ∙ sym (set-append_seam (entries_of xs n) (find_from 0 n xs) [] None)
        ∙ ap (λ k. slice_set (entries_of xs n ++ find_from 0 n xs ∷ []) k None) (let w : length (entries_of xs n) ≡ a = omega (arith, entries_long xs n) in w)
  ]
