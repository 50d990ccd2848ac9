-- A local that is set: in the innermost block, and not in those around it.
use Rattle.std.proofs.Common.{◌≡◌, ℕ, Bool, true, List, [], ◌∷◌, refl}
use Rattle.std.specs.Prelude.{slice_set}
use Rattle.w_locals.specs.Locals.{first_set, outer_sets, set_in_first}

pub set_now : (x : ℕ) (ss : List (List Bool)) → first_set (set_in_first x ss) ≡ slice_set (first_set ss) x true
set_now x [] = refl
set_now x (s ∷ ss) = refl

pub set_around : (x : ℕ) (ss : List (List Bool)) → outer_sets (set_in_first x ss) ≡ outer_sets ss
set_around x [] = refl
set_around x (s ∷ ss) = refl
