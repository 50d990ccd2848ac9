-- Relations.
use Rattle.std.specs.Prelude.{List, [], ◌∷◌}

-- lists of one length, whose items at each place are related
pub data Pairwise {A : Type 0} (R : A → A → Type 0) : List A → List A → Type 0 where
  none : Pairwise R [] []
  more : {x y : A} {xs ys : List A} → R x y → Pairwise R xs ys → Pairwise R (x ∷ xs) (y ∷ ys)

abbrev pub IsReflexive : {A : Type 0} → (A → A → Type 0) → Type 0
IsReflexive {A} R = (x : A) → R x x

abbrev pub IsSymmetric : {A : Type 0} → (A → A → Type 0) → Type 0
IsSymmetric {A} R = (x y : A) → R x y → R y x

abbrev pub IsTransitive : {A : Type 0} → (A → A → Type 0) → Type 0
IsTransitive {A} R = (x y z : A) → R x y → R y z → R x z
