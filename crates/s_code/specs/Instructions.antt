-- The instructions that scripts are compiled to, each before the code that comes after it.
use Rattle.std.specs.Prelude.{ℕ, ℤ, pos, negsuc, List}
use Rattle.w_types.specs.declared.types.HeapType.TheVariants as heap
use Rattle.w_types.specs.declared.types.ValType.TheVariants.{I64 as ValI64}
use Rattle.w_syntax.specs.Code.{Code, Done, Plain, IfElse}
use Rattle.w_syntax.specs.declared.numeric.IntType.TheVariants.{I32, I64}
use Rattle.w_syntax.specs.declared.numeric.Binop.{Binop}
use Rattle.w_syntax.specs.declared.numeric.Relop.{Relop}
use Rattle.w_syntax.specs.declared.numeric.Binop.TheVariants as binop
use Rattle.w_syntax.specs.declared.numeric.Relop.TheVariants as relop
use Rattle.w_syntax.specs.declared.numeric.Cvtop.TheVariants as cvtop
use Rattle.w_syntax.specs.declared.numeric.NumericOp.TheVariants as numeric
use Rattle.w_syntax.specs.declared.instructions.ControlOp.TheVariants as control
use Rattle.w_syntax.specs.declared.instructions.ParametricOp.TheVariants as parametric
use Rattle.w_syntax.specs.declared.instructions.VariableOp.TheVariants as variable
use Rattle.w_syntax.specs.declared.instructions.TableOp.TheVariants as table
use Rattle.w_syntax.specs.declared.instructions.ReferenceOp.TheVariants as reference
use Rattle.w_syntax.specs.declared.instructions.Clause.{Clause}
use Rattle.w_syntax.specs.declared.instructions.SwitchingOp.TheVariants as switching
use Rattle.w_syntax.specs.declared.instructions.Op.{Op}
use Rattle.w_syntax.specs.declared.instructions.Op.TheVariants as op
use Rattle.w_syntax.specs.declared.instructions.BlockType.TheVariants as block
use Rattle.s_syntax.specs.declared.operators.UnaryOperator.{UnaryOperator}
use Rattle.s_syntax.specs.declared.operators.Connective.{Connective}
use Rattle.s_syntax.specs.declared.operators.Comparison.{Comparison}
use Rattle.s_syntax.specs.declared.operators.Arithmetic.{Arithmetic}
use Rattle.s_syntax.specs.declared.operators.UnaryOperator.TheVariants.{Minus, Not}
use Rattle.s_syntax.specs.declared.operators.Connective.TheVariants.{Or, And}
use Rattle.s_syntax.specs.declared.operators.Comparison.TheVariants.{Equal, NotEqual, Less, AtMost, Greater, AtLeast}
use Rattle.s_syntax.specs.declared.operators.Arithmetic.TheVariants.{Add, Subtract, Multiply, Divide, Remainder}

abbrev pub constant : ℤ → Op
constant z = op.Numeric (numeric.I64Const z)

abbrev pub constant_32 : ℤ → Op
constant_32 z = op.Numeric (numeric.I32Const z)

abbrev pub is_zero : Op
is_zero = op.Numeric (numeric.Eqz I64)

abbrev pub is_zero_32 : Op
is_zero_32 = op.Numeric (numeric.Eqz I32)

-- an i32, which is 0 or 1, as an i64
abbrev pub extend : Op
extend = op.Numeric (numeric.Convert cvtop.I64ExtendI32U)

-- the lower half of an i64
abbrev pub wrap : Op
wrap = op.Numeric (numeric.Convert cvtop.I32WrapI64)

abbrev pub binary : Binop → Op
binary o = op.Numeric (numeric.Binary I64 o)

abbrev pub compare : Relop → Op
compare o = op.Numeric (numeric.Compare I64 o)

abbrev pub unreachable : Op
unreachable = op.Control control.Unreachable

abbrev pub nop : Op
nop = op.Control control.Nop

abbrev pub branch : ℕ → Op
branch l = op.Control (control.Br l)

abbrev pub branch_if : ℕ → Op
branch_if l = op.Control (control.BrIf l)

abbrev pub leave : Op
leave = op.Control control.Return

abbrev pub call : ℕ → Op
call x = op.Control (control.Call x)

-- a call in the place of the function that it stands in
abbrev pub return_call : ℕ → Op
return_call x = op.Control (control.ReturnCall x)

abbrev pub dropped : Op
dropped = op.Parametric parametric.Drop

-- of two numbers the first one, where the i32 behind them isn't 0
abbrev pub select : Op
select = op.Parametric parametric.Select

abbrev pub local_get : ℕ → Op
local_get x = op.Variable (variable.LocalGet x)

abbrev pub local_set : ℕ → Op
local_set x = op.Variable (variable.LocalSet x)

abbrev pub table_get : ℕ → Op
table_get x = op.Table (table.Get x)

abbrev pub table_set : ℕ → Op
table_set x = op.Table (table.Set x)

abbrev pub null : ℕ → Op
null x = op.Reference (reference.Null (heap.Index x))

abbrev pub non_null : Op
non_null = op.Reference reference.AsNonNull

abbrev pub function_reference : ℕ → Op
function_reference x = op.Reference (reference.Func x)

abbrev pub new_continuation : ℕ → Op
new_continuation x = op.Switching (switching.ContNew x)

abbrev pub bind_continuation : ℕ → ℕ → Op
bind_continuation x y = op.Switching (switching.ContBind x y)

abbrev pub suspend : ℕ → Op
suspend x = op.Switching (switching.Suspend x)

abbrev pub resume : ℕ → List Clause → Op
resume x hs = op.Switching (switching.Resume x hs)

abbrev pub switch : ℕ → ℕ → Op
switch x e = op.Switching (switching.Switch x e)

-- if the number on the stack is 0 then x else y, each of which leaves a number
abbrev pub number_if_zero : Code → Code → Code → Code
number_if_zero x y c = Plain is_zero (IfElse (block.Value ValI64) x y c)

-- if the number on the stack is 0 then x else y
abbrev pub if_zero : Code → Code → Code → Code
if_zero x y c = Plain is_zero (IfElse block.Empty x y c)

-- 1 where the number on the stack isn't 0, else 0
abbrev pub truth : Code
truth = Plain is_zero (Plain is_zero_32 (Plain extend Done))

-- ## Operators

abbrev pub binop_of : Arithmetic → Binop
binop_of Add = binop.Add
binop_of Subtract = binop.Sub
binop_of Multiply = binop.Mul
binop_of Divide = binop.DivS
binop_of Remainder = binop.RemS

abbrev pub relop_of : Comparison → Relop
relop_of Equal = relop.Eq
relop_of NotEqual = relop.Ne
relop_of Less = relop.LtS
relop_of AtMost = relop.LeS
relop_of Greater = relop.GtS
relop_of AtLeast = relop.GeS

-- -a is a * -1
abbrev pub unary_operator : UnaryOperator → Code → Code
unary_operator Minus c = Plain (constant (negsuc 0)) (Plain (binary binop.Mul) c)
unary_operator Not c = Plain is_zero (Plain extend c)

-- an operator behind its left operand, with the code of the right one, which is `right` before what is given to it
abbrev pub connective : Connective → (right : Code) → Code → Code
connective And right c = number_if_zero (Plain (constant (pos 0)) Done) right c
connective Or right c = number_if_zero right (Plain (constant (pos 1)) Done) c

abbrev pub comparison : Comparison → Code → Code
comparison o c = Plain (compare (relop_of o)) (Plain extend c)

abbrev pub arithmetic : Arithmetic → Code → Code
arithmetic o c = Plain (binary (binop_of o)) c
