-- The type of the continuation that a switch gives to its target (stack-switching explainer, validation: switch).
use Rattle.std.specs.Prelude.{ℕ, Option, Some, None}
use Rattle.w_types.specs.declared.types.FuncType.{FuncType}
use Rattle.lists.specs.Rows.{row_of}
use Rattle.w_syntax.specs.declared.module.Module.{Module}
use Rattle.w_rules.specs.Context.{cont_of}
use Rattle.w_rules.specs.Spaces.{context_of}
use Rattle.w_reduce.specs.Switching.{back_type}

-- the continuation type that the last parameter refers to
abbrev pub last_cont : Option FuncType → Option ℕ
last_cont (Some t) = back_type (row_of t.params)
last_cont None = None

abbrev pub cont_at : Module → Option ℕ → Option FuncType
cont_at m (Some y) = cont_of (context_of m) y
cont_at m None = None

-- the function type of the continuation type that the last parameter of the continuation type of index x refers to
abbrev pub back_of : Module → ℕ → Option FuncType
back_of m x = cont_at m (last_cont (cont_of (context_of m) x))
