-- What a rule looks up is there, since otherwise no rule would apply.
use Rattle.std.proofs.Common.{◌≡◌, ℕ, ◌<◌, List, length, map, Option, Some, None, slice_get, refl, ap, arith}
use Rattle.std.specs.Prelude.{◌≢◌}
use Rattle.std.proofs.lemmas.List.{length-map}
use Rattle.std.proofs.lemmas.Option.{slice_get_within}
use Rattle.w_reduce.specs.Reduced.{Reduced, Stuck, or_stuck}

-- it is there, and with it a rule applies
pub record Found {A : Type 0} (o : Option A) (go : A → Reduced) : Type 0 where
  pub item : A
  pub is : o ≡ Some item
  pub applies : go item ≢ Stuck

pub found : {A : Type 0} (o : Option A) (go : A → Reduced) → or_stuck o go ≢ Stuck → Found o go
found None go h = absurd (h refl)
found (Some a) go h = record { item = a; is = refl; applies = h }

-- a place in a list of what others stand for
pub within_mapped : {A B : Type 0} (f : A → B) (xs : List A) (x : ℕ) (b : B) → slice_get (map f xs) x ≡ Some b → x < length xs
within_mapped f xs x b h = let w = slice_get_within (map f xs) x b h in omega (arith, w, length-map xs f)

-- so a rule that looks it up finds it there
pub mapped_found : {A B : Type 0} (f : A → B) (xs : List A) (x : ℕ) (go : B → Reduced) → or_stuck (slice_get (map f xs) x) go ≢ Stuck → x < length xs
mapped_found f xs x go h =
    let t = found (slice_get (map f xs) x) go h in
    within_mapped f xs x t.item t.is

-- and the rule goes on with it
pub goes_on : {A : Type 0} (o : Option A) (go : A → Reduced) (a : A) → o ≡ Some a → or_stuck o go ≡ go a
goes_on {A} o go a h = ap (λ (q : Option A). or_stuck q go) h
