use Rattle.w_syntax.specs.declared.numeric.IntType.TheVariants as int
use Rattle.w_inst.proofs.Operands.{first_missing, operated}
use Rattle.w_inst.proofs.constants.reduce_i64.Goals as goal

pub returns-in_default : goal.returns-in_default
returns-in_default c = record { leaves = first_missing int.I64 c.args.op c.args.operands.now.items c.take_i64.new.operands.items c.in_default.ensures }

pub returns : goal.returns
returns c = record {
  leaves = operated int.I64 c.args.op c.args.operands.now.items c.take_i64.new.operands.items c.take_i64-2.new.operands.items c.push.new.self.items c.in-Some-take_i64.a c.in-Some.b
      c.binary_i64.result c.in-Some.ensures c.in-Some-take_i64.ensures c.binary_i64.ensures c.in_ok-push.ensures.items;
}
