-- Stores of continuations before and after a reduction: what is consumed stays so, and what is made isn't consumed.
use Rattle.std.proofs.Common.{◌≡◌, ℕ, zero, suc, List, [], ◌∷◌, ◌++◌, Option, Some, None, refl}
use Rattle.std.specs.Prelude.{slice_get, slice_set}
use Rattle.w_reduce.specs.Store.{consumed_in}
use Rattle.w_reduce.specs.Terms.{Continuation}

pub data Later : List (Option Continuation) → List (Option Continuation) → Type 0 where
  made : {now : List (Option Continuation)} → consumed_in now ≡ 0 → Later [] now
  gone : {before now : List (Option Continuation)} → Later before now → Later (None ∷ before) (None ∷ now)
  stays : {k l : Continuation} {before now : List (Option Continuation)} → Later before now → Later (Some k ∷ before) (Some l ∷ now)
  goes : {k : Continuation} {before now : List (Option Continuation)} → Later before now → Later (Some k ∷ before) (None ∷ now)

-- nothing happens
pub later_same : (ks : List (Option Continuation)) → Later ks ks
later_same [] = made refl
later_same (None ∷ ks) = gone (later_same ks)
later_same (Some k ∷ ks) = stays (later_same ks)

-- one is consumed
pub later_without : (ks : List (Option Continuation)) (a : ℕ) → Later ks (slice_set ks a None)
later_without [] a = made refl
later_without (None ∷ ks) zero = gone (later_same ks)
later_without (Some k ∷ ks) zero = goes (later_same ks)
later_without (None ∷ ks) (suc a) = gone (later_without ks a)
later_without (Some k ∷ ks) (suc a) = stays (later_without ks a)

none_consumed : (ks : List (Option Continuation)) (k : Continuation) → consumed_in ks ≡ 0 → consumed_in (ks ++ Some k ∷ []) ≡ 0
none_consumed [] k e = refl
none_consumed (None ∷ ks) k e = absurd (cc)
none_consumed (Some l ∷ ks) k e = none_consumed ks k e

-- one more is made
pub later_with : {before now : List (Option Continuation)} (k : Continuation) → Later before now → Later before (now ++ Some k ∷ [])
later_with {now = now} k (made e) = made (none_consumed now k e)
later_with k (gone h) = gone (later_with k h)
later_with k (stays h) = stays (later_with k h)
later_with k (goes h) = goes (later_with k h)

-- what is consumed stays so
pub gone_later : {before now : List (Option Continuation)} (a : ℕ) → Later before now → slice_get before a ≡ Some None → slice_get now a ≡ Some None
gone_later a (made h) e = absurd (cc)
gone_later zero (gone h) e = refl
gone_later (suc a) (gone h) e = gone_later a h e
gone_later zero (stays h) e = absurd (cc)
gone_later (suc a) (stays h) e = gone_later a h e
gone_later zero (goes h) e = refl
gone_later (suc a) (goes h) e = gone_later a h e
