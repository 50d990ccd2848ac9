-- What the functions of the host print of their argument.
use Rattle.std.specs.Prelude.{ℕ, List, [], ◌∷◌, drop}
use Rattle.w_types.specs.declared.value.Value.{Value}
use Rattle.w_types.specs.declared.value.Value.TheVariants.{Null}
use Rattle.w_syntax.specs.declared.numeric.IntType.{IntType}
use Rattle.w_syntax.specs.declared.numeric.IntType.TheVariants as int
use Rattle.w_tables.specs.declared.entries.Printer.{Printer}
use Rattle.w_tables.specs.declared.entries.Printer.TheVariants as printer
use Rattle.w_reduce.specs.Printed.{printed_i32, printed_i64, printed_byte}
use Rattle.w_stands.specs.Numbers.{bits_in}

-- the type of the number that it takes
abbrev pub taken_by : Printer → IntType
taken_by printer.I32 = int.I32
taken_by printer.I64 = int.I64
taken_by printer.Byte = int.I32

-- the bytes that it prints
abbrev pub printed : Printer → ℕ → List ℕ
printed printer.I32 = printed_i32
printed printer.I64 = printed_i64
printed printer.Byte = printed_byte

-- the first of these, or else null
abbrev pub first : List Value → Value
first [] = Null
first (v ∷ vs) = v

-- what it prints of the topmost operand, once so many are gone
abbrev pub text_of : Printer → ℕ → List Value → List ℕ
text_of k popped vs = printed k (bits_in (first (drop popped vs)))
