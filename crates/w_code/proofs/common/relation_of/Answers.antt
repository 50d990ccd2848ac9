use Rattle.std.proofs.Common.{arith, refl}
use Rattle.w_syntax.specs.declared.instructions.Op.TheVariants as op
use Rattle.w_syntax.specs.declared.numeric.NumericOp.TheVariants as numeric
use Rattle.w_code.proofs.CommonTokens.{numeric_alone}
use Rattle.w_code.proofs.common.relation_of.Goals as goal

pub returns-in-70-to-79 : goal.returns-in-70-to-79
returns-in-70-to-79 c = (op.Numeric (numeric.Compare c.tested_type.result c.relop_of.result), refl, numeric_alone _ _ (grind arith) (grind arith) (rw c.tested_type.ensures c.relop_of.ensures))
