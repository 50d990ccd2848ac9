-- Numbers that an operation gives.
use Rattle.std.specs.Prelude.{ℕ, Result, Ok, Err}
use Rattle.w_types.specs.declared.value.Value.{Value}
use Rattle.w_num.specs.declared.fault.NumFault.{NumFault}
use Rattle.w_syntax.specs.declared.numeric.IntType.{IntType}
use Rattle.w_stands.specs.Numbers.{value_of}

-- the value that an operation gives, where it doesn't fault
abbrev pub given : IntType → Result ℕ NumFault → Result Value NumFault
given t (Ok n) = Ok (value_of t n)
given t (Err f) = Err f
