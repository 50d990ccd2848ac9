-- Rows of lists: a list with one more value at its end is a row with one more at its right.
use Rattle.std.proofs.Common.{◌≡◌, ◌+◌, List, [], ◌∷◌, ◌++◌, length, refl, sym, ap, ◌∙◌, append_assoc, append-nil, arith}
use Rattle.lists.specs.Rows.{Row, ε, ◌▹◌, ◌⧺◌, size, onto, row_of, listed}

module _ {A : Type 0} where
  onto-more : (xs : Row A) (ys : List A) (y : A) → onto xs (ys ++ y ∷ []) ≡ onto xs ys ▹ y
  onto-more xs [] y = refl
  onto-more xs (z ∷ ys) y = onto-more (xs ▹ z) ys y

  pub row_of-more : (ys : List A) (y : A) → row_of (ys ++ y ∷ []) ≡ row_of ys ▹ y
  row_of-more ys y = onto-more ε ys y

  size-onto : (xs : Row A) (ys : List A) → size (onto xs ys) ≡ size xs + length ys
  size-onto xs [] = omega arith
  size-onto xs (y ∷ ys) = omega (arith, size-onto (xs ▹ y) ys)

  -- a row is as long as its list
  pub size-row_of : (ys : List A) → size (row_of ys) ≡ length ys
  size-row_of ys = omega (arith, size-onto ε ys)

  listed-onto : (xs : Row A) (ys : List A) → listed (onto xs ys) ≡ listed xs ++ ys
  listed-onto xs [] = sym (append-nil (listed xs))
  listed-onto xs (y ∷ ys) = listed-onto (xs ▹ y) ys ∙ append_assoc (listed xs) (y ∷ []) ys

  -- the list of a list's row is the list
  pub listed-row_of : (ys : List A) → listed (row_of ys) ≡ ys
  listed-row_of ys = listed-onto ε ys

  pub beside_assoc : (xs ys zs : Row A) → (xs ⧺ ys) ⧺ zs ≡ xs ⧺ (ys ⧺ zs)
  beside_assoc xs ys ε = refl
  beside_assoc xs ys (zs ▹ z) = ap (λ r. r ▹ z) (beside_assoc xs ys zs)

  pub unit_left : (xs : Row A) → ε ⧺ xs ≡ xs
  unit_left ε = refl
  unit_left (xs ▹ x) = ap (λ r. r ▹ x) (unit_left xs)

  beside-onto : (xs ys : Row A) (zs : List A) → onto (xs ⧺ ys) zs ≡ xs ⧺ onto ys zs
  beside-onto xs ys [] = refl
  beside-onto xs ys (z ∷ zs) = beside-onto xs (ys ▹ z) zs

  onto-append : (xs : Row A) (ys zs : List A) → onto xs (ys ++ zs) ≡ onto (onto xs ys) zs
  onto-append xs [] zs = refl
  onto-append xs (y ∷ ys) zs = onto-append (xs ▹ y) ys zs

  -- the row of one list and then another
  pub row_of-append : (ys zs : List A) → row_of (ys ++ zs) ≡ row_of ys ⧺ row_of zs
  row_of-append ys zs = onto-append ε ys zs ∙ beside-onto (row_of ys) ε zs
