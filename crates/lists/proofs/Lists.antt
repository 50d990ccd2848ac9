-- Items of one list behind another, and the item at a place with those behind it.
use Rattle.std.proofs.Common.{◌≡◌, ◌⊎◌, inl, inr, ℕ, zero, suc, ◌+◌, ◌-◌, ◌<◌, List, [], ◌∷◌, ◌++◌, length, drop, get_or, slice_get, Some, refl, sym, ap, ◌∙◌, arith, add-one, drop-cons}

module _ {A : Type 0} where
  -- an item of the first list
  pub get-front : (xs ys : List A) (i : ℕ) → i < length xs → slice_get (xs ++ ys) i ≡ slice_get xs i
  get-front [] ys i h = absurd (omega arith)
  get-front (x ∷ xs) ys zero h = refl
  get-front (x ∷ xs) ys (suc i) h = get-front xs ys i (omega arith)

  -- an item of the second
  pub get-behind : (xs ys : List A) (i : ℕ) → slice_get (xs ++ ys) (length xs + i) ≡ slice_get ys i
  get-behind [] ys i = ap (slice_get ys) (omega arith)
  get-behind (x ∷ xs) ys i = let e : suc (length xs) + i ≡ suc (length xs + i) = omega arith in rw e (get-behind xs ys i)

  -- an item of a list with one more: of the list, or the one more
  pub front_or_last : (xs : List A) (x : A) (i : ℕ) (y : A) → slice_get (xs ++ x ∷ []) i ≡ Some y → (slice_get xs i ≡ Some y) ⊎ ((i ≡ length xs) × (x ≡ y))
  front_or_last [] x zero y e = inr (refl, (cc))
  front_or_last [] x (suc i) y e = absurd cc
  front_or_last (z ∷ xs) x zero y e = inl e
  front_or_last (z ∷ xs) x (suc i) y e = elim (front_or_last xs x i y e) [ inl h ↦ inl h | inr p ↦ inr (ap suc p.0, p.1) ]

cell_at : {A : Type 0} (xs : List A) (i : ℕ) (d : A) → i < length xs → drop i xs ≡ get_or xs i d ∷ drop (i + 1) xs
cell_at xs i d h = rw (add-one, drop-cons xs i d) refl

-- the item at a place, and those behind it
pub cell : {A : Type 0} (xs : List A) (i : ℕ) (x : A) → i < length xs → x ≡ get_or xs i x → drop i xs ≡ x ∷ drop (i + 1) xs
cell xs i x h e = cell_at xs i x h ∙ ap (λ (y : _). y ∷ drop (i + 1) xs) (sym e)

-- the same, counted from behind
pub cell_back : {A : Type 0} (xs : List A) (b : ℕ) (x : A) → b < length xs → x ≡ get_or xs (length xs - 1 - b) x → drop (length xs - (b + 1)) xs ≡ x ∷ drop (length xs - b) xs
cell_back xs b x h e =
    let i : length xs - (b + 1) ≡ length xs - 1 - b = omega (arith, h) in
    let next : length xs - 1 - b + 1 ≡ length xs - b = omega (arith, h) in
    let within : length xs - 1 - b < length xs = omega (arith, h) in
    ap (λ (k : ℕ). drop k xs) i ∙ cell xs (length xs - 1 - b) x within e ∙ ap (λ (k : ℕ). x ∷ drop k xs) next
