use Rattle.std.proofs.Common.{refl, sym, ◌∙◌}
use Rattle.w_syntax.proofs.DataNamed.{packed_of_data, some_packed_of_data, packed_step, no_packed}
use Rattle.w_syntax.proofs.SomeOf.{one_has, others_have, none_has}
use Rattle.w_syntax.proofs.body.some_is_of_data.Goals as goal

pub loop-instr-init : goal.loop-instr-init
loop-instr-init c = refl

pub returns-then-is_packed_of_data : goal.returns-then-is_packed_of_data
returns-then-is_packed_of_data c =
    sym (one_has some_packed_of_data packed_of_data packed_step c.args.instrs.now c.loop-instr.instr-index c.instr-item.result c.loop-instr-test.true c.instr-item.is (sym c.is_packed_of_data.ensures ∙ c.if-is_packed_of_data.true)) ∙ c.loop-instr.invariant

pub loop-instr-preserved : goal.loop-instr-preserved
loop-instr-preserved c =
    sym (others_have some_packed_of_data packed_of_data packed_step c.args.instrs.now c.loop-instr.instr-index c.instr-item.result c.loop-instr-test.true c.instr-item.is (sym c.is_packed_of_data.ensures ∙ c.if-is_packed_of_data.false)) ∙ c.loop-instr.invariant

pub returns : goal.returns
returns c = sym (none_has some_packed_of_data no_packed c.args.instrs.now c.loop-instr.instr-index c.loop-instr-test.false) ∙ c.loop-instr.invariant
