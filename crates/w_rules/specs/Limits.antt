-- The limits on a module's size. The number itself is within its limit.
use Rattle.std.specs.Prelude.{ℕ, ◌+◌, ◌<◌, ◌≤◌, All, length, Option, Some, None}
use Rattle.w_types.specs.declared.types.FuncType.{FuncType}
use Rattle.w_types.specs.declared.types.CompType.{CompType}
use Rattle.w_types.specs.declared.types.CompType.TheVariants as comp
use Rattle.w_types.specs.Groups.{types_of}
use Rattle.w_syntax.specs.Functions.{type_of_function, code_of_function}
use Rattle.w_syntax.specs.Locals.{total}
use Rattle.w_syntax.specs.declared.module.Func.{Func}
use Rattle.w_syntax.specs.declared.module.Module.{Module}
use Rattle.w_rules.specs.declared.limits.SizeLimit.{SizeLimit}
use Rattle.w_rules.specs.declared.limits.SizeLimit.TheVariants.{Types, Params, Locals}

abbrev pub params_in : Option FuncType → ℕ
params_in (Some t) = length t.params
params_in None = 0

abbrev pub locals_in : Option Func → ℕ
locals_in (Some f) = total f.locals
locals_in None = 0

-- the locals of the function of this index, its parameters among them
abbrev pub locals_of : Module → ℕ → ℕ
locals_of m i = params_in (type_of_function m i) + locals_in (code_of_function m i)

-- ## The limits

-- types of a module
abbrev pub most_types : ℕ
most_types = 10000

-- parameters, and results, of one function type
abbrev pub most_params : ℕ
most_params = 1000

-- locals of one function, its parameters among them
abbrev pub most_locals : ℕ
most_locals = 50000

-- ## Modules within them

-- a function type has at most so many parameters, and so many results
abbrev pub IsNarrow : CompType → Type 0
IsNarrow (comp.Func t) = (length t.params ≤ most_params) × (length t.results ≤ most_params)
IsNarrow (comp.Cont x) = Unit {0}

-- the module keeps a limit
abbrev pub Keeps : Module → SizeLimit → Type 0
Keeps m Types = length (types_of m.types) ≤ most_types
Keeps m Params = All IsNarrow (types_of m.types)
Keeps m Locals = (i : ℕ) → i < length m.codes → locals_of m i ≤ most_locals

-- the module keeps all of them
pub record Within (m : Module) : Type 0 where
  pub types : Keeps m Types
  pub params : Keeps m Params
  pub locals : Keeps m Locals

-- the first limit that a module passes, in the order types, params, locals
abbrev pub Passes : Module → SizeLimit → Type 0
Passes m Types = Keeps m Types → ⊥
Passes m Params = Keeps m Types × (Keeps m Params → ⊥)
Passes m Locals = Keeps m Types × Keeps m Params × (Keeps m Locals → ⊥)
