use Rattle.std.proofs.Common.{arith}
use Rattle.w_syntax.proofs.OneInstruction.{front_only, none_only}
use Rattle.w_syntax.proofs.body.Body.only.Goals as goal

pub returns-then-instrs-ne2 : goal.returns-then-instrs-ne2
returns-then-instrs-ne2 c = none_only c.args.self.now c.instrs-instrs.result.now c.instrs-instrs.ensures c.if-instrs-ne2.true

pub returns : goal.returns
returns c = front_only c.args.self.now c.instrs-instrs.result.now c.index-instrs-0.result c.instrs-instrs.ensures c.index-instrs-0.is (omega (arith, c.if-instrs-ne2.false))
