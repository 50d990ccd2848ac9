-- A segment as contracts see it (stack-switching explainer, continuations): itself and the segments that wait for it, the innermost
-- first, each with the place of the clause list at which it waits.
use Rattle.std.specs.Prelude.{◌≡◌, ◌≤◌, ℕ, List, [], ◌∷◌, Option, Some, None}
use Rattle.w_segment.specs.Shape.{Shape, Capacity, fresh_shape, no_capacity}

pub record Link : Type 0 where
  pub shape : Shape
  pub clauses : ℕ

abbrev pub one : Shape → ℕ → List Link
one s n = record { shape = s; clauses = n } ∷ []

-- one segment that invokes a function next, with room for its parameters
pub record IsNew (f params : ℕ) (s : List Link) : Type 0 where
  pub capacity : Capacity
  pub is : s ≡ one (fresh_shape f capacity) 0
  pub room : params ≤ capacity.operands

-- the innermost one
abbrev pub top : List Link → Link
top [] = record { shape = fresh_shape 0 no_capacity; clauses = 0 }
top (x ∷ xs) = x

-- those around it
abbrev pub rest : List Link → List Link
rest [] = []
rest (x ∷ xs) = xs

-- those around it, where there are any
abbrev pub parent_of : List Link → Option (List Link)
parent_of [] = None
parent_of (x ∷ []) = None
parent_of (x ∷ y ∷ ys) = Some (y ∷ ys)

abbrev pub with_clauses : ℕ → List Link → List Link
with_clauses n [] = []
with_clauses n (x ∷ xs) = record x { clauses = n } ∷ xs

abbrev pub with_top : Shape → List Link → List Link
with_top s [] = []
with_top s (x ∷ xs) = record x { shape = s } ∷ xs
