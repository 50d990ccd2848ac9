use Rattle.std.proofs.Common.{arith, refl}
use Rattle.w_syntax.specs.declared.instructions.Op.TheVariants as op
use Rattle.w_syntax.specs.declared.numeric.NumericOp.TheVariants as numeric
use Rattle.w_code.proofs.CommonTokens.{numeric_alone}
use Rattle.w_code.proofs.common.arithmetic_of.Goals as goal

pub returns-in-106-to-120 : goal.returns-in-106-to-120
returns-in-106-to-120 c = (op.Numeric (numeric.Binary c.worked_type.result c.binop_of.result), refl, numeric_alone _ _ (grind arith) (grind arith) (rw c.worked_type.ensures c.binop_of.ensures))

pub returns-in-103-to-105 : goal.returns-in-103-to-105
returns-in-103-to-105 c = (op.Numeric (numeric.Unary c.worked_type-in-103-to-105.result c.unop_of.result), refl, numeric_alone _ _ (grind arith) (grind arith) (rw c.worked_type-in-103-to-105.ensures c.unop_of.ensures))
