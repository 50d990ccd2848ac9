-- The number that digits stand for.
use Rattle.std.proofs.Common.{◌≡◌, ℕ, ◌+◌, ◌-◌, ◌*◌, ◌<◌, ◌≤◌, Bool, true, false, List, [], ◌∷◌, length, drop, get_or, refl, sym, ap, ◌∙◌, arith, length-drop}
use Rattle.std.specs.Prelude.{nat_le}
use Rattle.std.proofs.lemmas.Bool.{le-leb, leb-true}
use Rattle.s_lex.specs.Texts.{value_behind, greatest}
use Rattle.s_lex.proofs.Runs.{cell}

value_grows : (ds : List ℕ) (v : ℕ) → v ≤ value_behind v ds
unfolding value_behind
value_grows [] v = omega arith
value_grows (d ∷ ds) v = omega (arith, value_grows ds (v * 10 + (d - 48)))

value_cons : (v d : ℕ) (ds : List ℕ) → value_behind v (d ∷ ds) ≡ value_behind (v * 10 + (d - 48)) ds
unfolding value_behind
value_cons v d ds = refl

-- one digit more
pub value_step : (ds : List ℕ) (i v : ℕ) → i < length ds → value_behind v (drop i ds) ≡ value_behind (v * 10 + (get_or ds i 0 - 48)) (drop (i + 1) ds)
value_step ds i v h = ap (value_behind v) (cell ds i h) ∙ value_cons v (get_or ds i 0) (drop (i + 1) ds)

none_left : (l : List ℕ) (v : ℕ) → length l ≡ 0 → value_behind v l ≡ v
unfolding value_behind
none_left [] v h = refl
none_left (d ∷ l) v h = absurd (omega (arith, h))

-- digits that pass the greatest number on the way pass it in all
pub too_great : (ds : List ℕ) (i v all : ℕ) → i < length ds → value_behind v (drop i ds) ≡ all → greatest < v * 10 + (get_or ds i 0 - 48) → greatest < all
too_great ds i v all h e g = omega (arith, value_step ds i v h, value_grows (drop (i + 1) ds) (v * 10 + (get_or ds i 0 - 48)), e, g)

-- the digits are through
pub value_done : (ds : List ℕ) (i v : ℕ) → length ds ≤ i → value_behind v (drop i ds) ≡ v
value_done ds i v h = none_left (drop i ds) v (omega (arith, length-drop i ds))

-- the test, by what is known of its sides
pub above_greatest : (n : ℕ) → greatest < n → false ≡ nat_le n greatest
above_greatest n h = cases (nat_le n greatest) refl
  where
    cases : (v : Bool) → nat_le n greatest ≡ v → false ≡ v
    cases true e = absurd (omega (arith, h, leb-true n greatest e))
    cases false e = refl

pub not_above_greatest : (n m : ℕ) → n ≤ greatest → n ≡ m → true ≡ nat_le m greatest
not_above_greatest n m h e = sym (le-leb m greatest (omega (arith, h, e)))
