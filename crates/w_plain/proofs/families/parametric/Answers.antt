use Rattle.w_stands.specs.declared.did.Did.TheVariants as did
use Rattle.w_plain.proofs.Steps.{takes_alone}
use Rattle.w_plain.proofs.families.parametric.Goals as goal

pub returns-in-Drop : goal.returns-in-Drop
returns-in-Drop c =
    record { step = takes_alone did.Went c.args.program.now c.args.store.now c.args.stack.now c.drop_operand.new.stack c.drop_operand.ensures.goes c.drop_operand.ensures.keeps; stays = c.drop_operand.ensures.stays }

pub returns : goal.returns
returns c =
    record { step = takes_alone did.Went c.args.program.now c.args.store.now c.args.stack.now c.select.new.stack c.select.ensures.goes c.select.ensures.keeps; stays = c.select.ensures.stays }
