use Rattle.std.proofs.Common.{◌≡◌, ap, sym, ◌∙◌, arith, to_z, of_z, w32, w64}
use Rattle.std.proofs.lemmas.Int.{to_z-of_z}
use Rattle.w_syntax.specs.declared.instructions.Op.TheVariants as op
use Rattle.w_syntax.specs.declared.numeric.NumericOp.TheVariants as numeric
use Rattle.w_inst.proofs.Operands.{always_as}
use Rattle.w_inst.proofs.constants.reduce_number.Goals as goal

pub returns-in-I32Const : goal.returns-in-I32Const
returns-in-I32Const c =
    let z = c.in-I32Const.number in
    let fits : to_z w32 (of_z w32 z) ≡ z = grind (arith, to_z-of_z) in
    record {
      leaves = always_as (op.Numeric (numeric.I32Const (to_z w32 (of_z w32 z)))) (op.Numeric c.args.number) c.args.operands.now.items c.put_i32.new.operands.items c.put_i32.result
          (ap op.Numeric (c.in-I32Const.is ∙ ap numeric.I32Const (sym fits))) c.put_i32.ensures.leaves;
    }

pub returns-in-I64Const : goal.returns-in-I64Const
returns-in-I64Const c =
    let z = c.in-I64Const.number in
    let fits : to_z w64 (of_z w64 z) ≡ z = grind (arith, to_z-of_z) in
    record {
      leaves = always_as (op.Numeric (numeric.I64Const (to_z w64 (of_z w64 z)))) (op.Numeric c.args.number) c.args.operands.now.items c.put_i64.new.operands.items c.put_i64.result
          (ap op.Numeric (c.in-I64Const.is ∙ ap numeric.I64Const (sym fits))) c.put_i64.ensures.leaves;
    }

pub returns-in-Binary : goal.returns-in-Binary
returns-in-Binary c = record {
  leaves = always_as (op.Numeric (numeric.Binary c.in-Binary.kind c.in-Binary.op)) (op.Numeric c.args.number) c.args.operands.now.items c.reduce_binary.new.operands.items c.reduce_binary.result
      (ap op.Numeric c.in-Binary.is) c.reduce_binary.ensures.leaves;
}
