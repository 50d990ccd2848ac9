-- The least of rules.
use Rattle.std.specs.Prelude.{ℕ, suc, nat_lt, List, [], ◌∷◌, Option, Some, None, if◌then◌else◌}
use Rattle.s_check.specs.declared.rule.Rule.{Rule}
use Rattle.s_check.specs.Refusal.{number_of}

abbrev pub lesser : Option Rule → Rule → Option Rule
lesser None r = Some r
lesser (Some s) r = if nat_lt (number_of r) (number_of s) then Some r else Some s

-- of a rule, if there is one, and these
abbrev pub least_of : Option Rule → List Rule → Option Rule
least_of least [] = least
least_of least (r ∷ rs) = least_of (lesser least r) rs

-- ## The first of lists that has a rule, where the first list has number n, and its least rule

abbrev pub first_or : ℕ → Option Rule → Option (ℕ × Rule) → Option (ℕ × Rule)
first_or n None later = later
first_or n (Some r) later = Some (n, r)

abbrev pub first_broken : ℕ → List (List Rule) → Option (ℕ × Rule)
first_broken n [] = None
first_broken n (rs ∷ lists) = first_or n (least_of None rs) (first_broken (suc n) lists)
