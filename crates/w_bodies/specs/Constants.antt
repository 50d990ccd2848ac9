-- Constant expressions, as lists, and those of one instruction.
use Rattle.std.specs.Prelude.{Bool, true, false, cond, Option, Some, None, slice_get}
use Rattle.lists.specs.Rows.{ε, ◌▹◌}
use Rattle.w_types.specs.declared.types.ValType.{ValType}
use Rattle.w_types.specs.declared.types.ValType.TheVariants.{I32, I64}
use Rattle.w_syntax.specs.declared.instructions.Instr.{Instr}
use Rattle.w_syntax.specs.declared.instructions.Instr.TheVariants as flat
use Rattle.w_syntax.specs.declared.instructions.Op.{Op}
use Rattle.w_syntax.specs.declared.instructions.Op.TheVariants as op
use Rattle.w_syntax.specs.declared.instructions.VariableOp.TheVariants as variable
use Rattle.w_syntax.specs.declared.module.GlobalType.{GlobalType}
use Rattle.w_syntax.specs.declared.numeric.NumericOp.TheVariants as numeric
use Rattle.w_rules.specs.Bodies.{is_const, is_fixed}
use Rattle.w_rules.specs.Context.{Context}
use Rattle.w_rules.specs.InstructionTypes.{InstrType, fixed, reference_op_type}

-- the instruction may stand in the list of a constant expression, as its end may
abbrev pub is_const_at : Context → Instr → Bool
is_const_at c (flat.Plain o) = is_const c o
is_const_at c (flat.Block kind x end) = false
is_const_at c (flat.If x other end) = false
is_const_at c flat.Else = false
is_const_at c flat.End = true

-- what an instruction gives that takes nothing and gives one value
abbrev pub given : InstrType → Option ValType
given (fixed ε (ε ▹ t)) = Some t
given l = None

-- the type of a global that is never written
abbrev pub fixed_type : Option GlobalType → Option ValType
fixed_type (Some g) = cond (is_fixed g.mutability) (Some g.kind) None
fixed_type None = None

-- the type of the constant expression of this instruction alone, if it is one
abbrev pub type_of_one : Context → Op → Option ValType
type_of_one c (op.Numeric (numeric.I32Const z)) = Some I32
type_of_one c (op.Numeric (numeric.I64Const z)) = Some I64
type_of_one c (op.Reference o) = given (reference_op_type c o)
type_of_one c (op.Variable (variable.GlobalGet x)) = fixed_type (slice_get c.globals x)
type_of_one c o = None
