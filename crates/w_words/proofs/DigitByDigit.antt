-- The number that digits stand for, digit by digit.
use Rattle.std.proofs.Common.{◌≡◌, ℕ, ◌+◌, ◌-◌, ◌*◌, ◌<◌, ◌≤◌, List, [], ◌∷◌, length, drop, get_or, refl, ap, ◌∙◌, arith, length-drop, drop-cons, add-one}
use Rattle.w_words.specs.Numbers.{value_behind}

cell : (ds : List ℕ) (i : ℕ) → i < length ds → drop i ds ≡ get_or ds i 0 ∷ drop (i + 1) ds
cell ds i h = rw (add-one, drop-cons ds i 0) refl

value_grows : (ds : List ℕ) (v : ℕ) → v ≤ value_behind v ds
unfolding value_behind
value_grows [] v = omega arith
value_grows (d ∷ ds) v = omega (arith, value_grows ds (v * 10 + (d - 48)))

value_cons : (v d : ℕ) (ds : List ℕ) → value_behind v (d ∷ ds) ≡ value_behind (v * 10 + (d - 48)) ds
unfolding value_behind
value_cons v d ds = refl

-- one digit more
pub value_step : (ds : List ℕ) (i v : ℕ) → i < length ds → value_behind v (drop i ds) ≡ value_behind (v * 10 + (get_or ds i 0 - 48)) (drop (i + 1) ds)
value_step ds i v h = ap (value_behind v) (cell ds i h) ∙ value_cons v (get_or ds i 0) (drop (i + 1) ds)

none_left : (l : List ℕ) (v : ℕ) → length l ≡ 0 → value_behind v l ≡ v
unfolding value_behind
none_left [] v h = refl
none_left (d ∷ l) v h = absurd (omega (arith, h))

-- digits that pass a number on the way pass it in all
pub too_great : (ds : List ℕ) (i v most all : ℕ) → i < length ds → value_behind v (drop i ds) ≡ all → most < v * 10 + (get_or ds i 0 - 48) → most < all
too_great ds i v most all h e g = omega (arith, value_step ds i v h, value_grows (drop (i + 1) ds) (v * 10 + (get_or ds i 0 - 48)), e, g)

-- the digits are through
pub value_done : (ds : List ℕ) (i v : ℕ) → length ds ≤ i → value_behind v (drop i ds) ≡ v
value_done ds i v h = none_left (drop i ds) v (omega (arith, length-drop i ds))
