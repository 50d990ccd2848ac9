-- Items that are references to functions.
use Rattle.std.proofs.Common.{◌≡◌, ℕ, List, [], ◌∷◌, map, refl, ap}
use Rattle.w_syntax.specs.Code.{Code}
use Rattle.w_syntax.specs.Items.{reference_to}
use Rattle.w_link.specs.Resolved.{Instance, at, code_resolved}

-- a list of them stays one
pub references_resolved : (i : Instance) (xs : List ℕ) → map reference_to (map (at i.functions) xs) ≡ map (code_resolved i) (map reference_to xs)
references_resolved i [] = refl
references_resolved i (x ∷ xs) = ap (λ (cs : List Code). reference_to (at i.functions x) ∷ cs) (references_resolved i xs)
