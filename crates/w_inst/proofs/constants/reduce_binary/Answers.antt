use Rattle.w_syntax.specs.declared.instructions.Op.TheVariants as op
use Rattle.w_syntax.specs.declared.numeric.NumericOp.TheVariants as numeric
use Rattle.w_syntax.specs.declared.numeric.IntType.TheVariants as int
use Rattle.std.proofs.Common.{ap}
use Rattle.w_syntax.specs.declared.numeric.IntType.{IntType}
use Rattle.w_inst.proofs.Operands.{always_as}
use Rattle.w_inst.proofs.constants.reduce_binary.Goals as goal

pub returns-in-I32 : goal.returns-in-I32
returns-in-I32 c = record {
  leaves = always_as (op.Numeric (numeric.Binary int.I32 c.args.op)) (op.Numeric (numeric.Binary c.args.kind c.args.op)) c.args.operands.now.items c.reduce_i32.new.operands.items c.reduce_i32.result
      (ap (λ (t : IntType). op.Numeric (numeric.Binary t c.args.op)) c.in-I32.is) c.reduce_i32.ensures.leaves;
}

pub returns-in-I64 : goal.returns-in-I64
returns-in-I64 c = record {
  leaves = always_as (op.Numeric (numeric.Binary int.I64 c.args.op)) (op.Numeric (numeric.Binary c.args.kind c.args.op)) c.args.operands.now.items c.reduce_i64.new.operands.items c.reduce_i64.result
      (ap (λ (t : IntType). op.Numeric (numeric.Binary t c.args.op)) c.in-I64.is) c.reduce_i64.ensures.leaves;
}
