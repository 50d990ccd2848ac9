-- Values as the definitions of execution see them (Core, execution, values; the explainer adds continuations).
use Rattle.std.specs.Prelude.{ℕ, Option, Some, None, if◌then◌else◌}
use Rattle.w_types.specs.declared.types.ValType.{ValType}
use Rattle.w_types.specs.declared.types.ValType.TheVariants as type
use Rattle.w_types.specs.declared.value.Value.{Value}
use Rattle.w_types.specs.declared.value.Value.TheVariants as value

-- A number as its bits, or a reference: null, or the address of a function or of a continuation.
pub data Val : Type 0 where
  I32 : (bits : ℕ) → Val
  I64 : (bits : ℕ) → Val
  Null : Val
  Func : (address : ℕ) → Val
  Cont : (address : ℕ) → Val

-- the value that one of the program stands for: a continuation's address is its serial
abbrev pub val : Value → Val
val (value.I32 n) = I32 n
val (value.I64 n) = I64 n
val value.Null = Null
val (value.Func a) = Func a
val (value.Cont r) = Cont r.serial

-- the default value of a type (Core, execution, default values)
abbrev pub default_of : ValType → Option Val
default_of type.I32 = Some (I32 0)
default_of type.I64 = Some (I64 0)
default_of (type.Ref r) = if r.nullable then Some Null else None
