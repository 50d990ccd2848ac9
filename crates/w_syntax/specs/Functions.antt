-- The functions of a module, by their indices.
use Rattle.std.specs.Prelude.{ℕ, Option, Some, None, slice_get}
use Rattle.w_types.specs.declared.types.CompType.{CompType}
use Rattle.w_types.specs.declared.types.CompType.TheVariants as comp
use Rattle.w_types.specs.declared.types.FuncType.{FuncType}
use Rattle.w_types.specs.Groups.{types_of}
use Rattle.w_syntax.specs.declared.module.Func.{Func}
use Rattle.w_syntax.specs.declared.module.Module.{Module}

abbrev pub function_type : Option CompType → Option FuncType
function_type (Some (comp.Func t)) = Some t
function_type (Some (comp.Cont x)) = None
function_type None = None

-- the function type of this index
abbrev pub func_type : Module → ℕ → Option FuncType
func_type m x = function_type (slice_get (types_of m.types) x)

abbrev pub type_at : Module → Option ℕ → Option FuncType
type_at m (Some x) = func_type m x
type_at m None = None

-- the type of the function of this index, where that is a function type
abbrev pub type_of_function : Module → ℕ → Option FuncType
type_of_function m i = type_at m (slice_get m.functions i)

-- its code
abbrev pub code_of_function : Module → ℕ → Option Func
code_of_function m i = slice_get m.codes i
