-- Counts of entries.
use Rattle.std.proofs.Common.{◌≡◌, ℕ, zero, suc, ◌+◌, List, [], ◌∷◌, ◌++◌, length, Option, Some, None, refl, arith}
use Rattle.std.specs.Prelude.{slice_set}
use Rattle.w_conts.specs.Conts.{some_count, none_count, entry_at}

-- each entry is there or not
pub count_all : {A : Type 0} (es : List (Option A)) → none_count es + some_count es ≡ length es
count_all [] = refl
count_all (None ∷ es) = omega (arith, count_all es)
count_all (Some x ∷ es) = omega (arith, count_all es)

module _ {T : Type 0} where
  -- one more at the end
  pub count_more : (es : List (Option (ℕ × T))) (x : ℕ × T) → some_count (es ++ Some x ∷ []) ≡ some_count es + 1
  count_more [] x = refl
  count_more (None ∷ es) x = count_more es x
  count_more (Some y ∷ es) x = omega (arith, count_more es x)

  -- one that was there is gone
  pub count_less : (es : List (Option (ℕ × T))) (a : ℕ) (x : ℕ × T) → entry_at es a ≡ Some x → some_count (slice_set es a None) + 1 ≡ some_count es
  count_less [] a x h = absurd cc
  count_less (None ∷ es) zero x h = absurd cc
  count_less (Some y ∷ es) zero x h = omega arith
  count_less (None ∷ es) (suc a) x h = count_less es a x h
  count_less (Some y ∷ es) (suc a) x h = omega (arith, count_less es a x h)
