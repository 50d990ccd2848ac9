use Rattle.w_plain.proofs.Steps.{takes_alone}
use Rattle.w_plain.proofs.families.number.Goals as goal

pub returns : goal.returns
returns c =
    record { step = takes_alone c.numeric.result c.args.program.now c.args.store.now c.args.stack.now c.numeric.new.stack c.numeric.ensures.goes c.numeric.ensures.keeps; stays = c.numeric.ensures.stays }
