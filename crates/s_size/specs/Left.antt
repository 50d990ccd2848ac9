-- Budgets.
use Rattle.std.specs.Prelude.{ℕ, ◌-◌, List, Option, Some, None, nat_le, if◌then◌else◌, sum_by}
use Rattle.s_syntax.specs.declared.script.Declaration.{Declaration}
use Rattle.s_check.specs.Size.{definition_size}

-- what is left of a budget after n, where it suffices
abbrev pub left_after : ℕ → ℕ → Option ℕ
left_after n budget = if nat_le n budget then Some (budget - n) else None

-- the size of declarations
abbrev pub declared_size : List Declaration → ℕ
declared_size ds = sum_by (λ (d : Declaration). definition_size d.definition) ds
