-- Values that are numbers.
use Rattle.std.specs.Prelude.{ℕ, ⊤}
use Rattle.w_types.specs.declared.value.Value.{Value}
use Rattle.w_types.specs.declared.value.Value.TheVariants as value
use Rattle.w_syntax.specs.declared.numeric.IntType.{IntType}
use Rattle.w_syntax.specs.declared.numeric.IntType.TheVariants as int

-- it is a number of the type
abbrev pub IsNumber : IntType → Value → Type 0
IsNumber int.I32 (value.I32 n) = ⊤
IsNumber int.I32 _ = ⊥
IsNumber int.I64 (value.I64 n) = ⊤
IsNumber int.I64 _ = ⊥

-- its bits
abbrev pub bits_in : Value → ℕ
bits_in (value.I32 n) = n
bits_in (value.I64 n) = n
bits_in _ = 0

abbrev pub value_of : IntType → ℕ → Value
value_of int.I32 n = value.I32 n
value_of int.I64 n = value.I64 n
