-- Rows: lists that grow at the right, as the standard writes operands and their types.
use Rattle.std.specs.Prelude.{ℕ, suc, List, [], ◌∷◌, ◌++◌}

infixl 50 ◌▹◌ ◌⧺◌
pub data Row (A : Type 0) : Type 0 where
  ε : Row A
  ◌▹◌ : Row A → A → Row A

-- one row, and another at its right
abbrev pub ◌⧺◌ : {A : Type 0} → Row A → Row A → Row A
xs ⧺ ε = xs
xs ⧺ (ys ▹ y) = (xs ⧺ ys) ▹ y

abbrev pub size : {A : Type 0} → Row A → ℕ
size ε = 0
size (xs ▹ x) = suc (size xs)

-- a row with a list at its right
abbrev pub onto : {A : Type 0} → Row A → List A → Row A
onto xs [] = xs
onto xs (y ∷ ys) = onto (xs ▹ y) ys

-- the row of a list
abbrev pub row_of : {A : Type 0} → List A → Row A
row_of ys = onto ε ys

-- the list of a row, from the left
abbrev pub listed : {A : Type 0} → Row A → List A
listed ε = []
listed (xs ▹ x) = listed xs ++ x ∷ []
