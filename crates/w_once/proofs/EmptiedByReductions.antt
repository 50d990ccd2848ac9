-- What one reduction empties.
use Rattle.std.proofs.Common.{◌≡◌, ◌≢◌, ℕ, suc, ◌+◌, List, [], ◌∷◌, length, Option, Some, refl, arith}
use Rattle.std.specs.Prelude.{slice_get}
use Rattle.w_reduce.specs.Store.{consumed_in}
use Rattle.w_reduce.specs.Terms.{Continuation}
use Rattle.w_once.specs.Consumptions.{emptied_from, Each, Once, IsConsumed}
use Rattle.w_once.proofs.Later.{Later, made, gone, stays, goes}

pub each_map : {P Q : ℕ → Type 0} (xs : List ℕ) → ((a : ℕ) → P a → Q a) → Each P xs → Each Q xs
each_map [] f h = tt
each_map (a ∷ xs) f h = (f a h.0, each_map xs f h.1)

-- an address that was live and is consumed, counted from b on
pub record IsEmptied (b : ℕ) (before now : List (Option Continuation)) (a : ℕ) : Type 0 where
  pub place : ℕ
  pub is : a ≡ b + place
  pub kept : Continuation
  pub was : slice_get before place ≡ Some (Some kept)
  pub is_consumed : IsConsumed now place

further : {b : ℕ} {before now : List (Option Continuation)} {x y : Option Continuation} (a : ℕ) → IsEmptied (suc b) before now a → IsEmptied b (x ∷ before) (y ∷ now) a
further a h = record { place = suc h.place; is = let e = h.is in omega (arith, e); kept = h.kept; was = h.was; is_consumed = h.is_consumed }

pub each_emptied : {before now : List (Option Continuation)} (b : ℕ) → Later before now → Each (IsEmptied b before now) (emptied_from b before now)
each_emptied b (made h) = tt
each_emptied b (gone {before = before} {now = now} h) = each_map (emptied_from (suc b) before now) further (each_emptied (suc b) h)
each_emptied b (stays {before = before} {now = now} h) = each_map (emptied_from (suc b) before now) further (each_emptied (suc b) h)
each_emptied b (goes {k = k} {before = before} {now = now} h) =
    (record { place = 0; is = omega arith; kept = k; was = refl; is_consumed = refl }, each_map (emptied_from (suc b) before now) further (each_emptied (suc b) h))

above : {b : ℕ} {before now : List (Option Continuation)} (a : ℕ) → IsEmptied (suc b) before now a → b ≢ a
above a h = λ e. let is = h.is in omega (arith, e, is)

-- none twice
pub emptied_once : {before now : List (Option Continuation)} (b : ℕ) → Later before now → Once (emptied_from b before now)
emptied_once b (made h) = tt
emptied_once b (gone h) = emptied_once (suc b) h
emptied_once b (stays h) = emptied_once (suc b) h
emptied_once b (goes {before = before} {now = now} h) = (each_map (emptied_from (suc b) before now) above (each_emptied (suc b) h), emptied_once (suc b) h)

-- as many more are consumed
pub emptied_count : {before now : List (Option Continuation)} (b : ℕ) → Later before now → consumed_in now ≡ consumed_in before + length (emptied_from b before now)
emptied_count b (made e) = omega (arith, e)
emptied_count b (gone h) = let i = emptied_count (suc b) h in omega (arith, i)
emptied_count b (stays h) = emptied_count (suc b) h
emptied_count b (goes h) = let i = emptied_count (suc b) h in omega (arith, i)
