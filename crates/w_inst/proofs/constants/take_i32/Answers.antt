use Rattle.std.proofs.Common.{arith}
use Rattle.w_syntax.specs.declared.numeric.IntType.TheVariants as int
use Rattle.w_inst.proofs.Operands.{take_top, take_none}
use Rattle.w_inst.proofs.constants.take_i32.Goals as goal

pub returns-in-Some : goal.returns-in-Some
returns-in-Some c = take_top int.I32 c.args.operands.now.items c.pop.new.self.items c.in-Some.value c.i32_in.result c.in-Some.ensures.items c.i32_in.ensures

pub returns-in-None : goal.returns-in-None
returns-in-None c = take_none int.I32 c.args.operands.now.items (omega (arith, c.in-None.ensures.cases.0))
