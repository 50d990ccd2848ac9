use Rattle.w_stands.specs.declared.did.Did.TheVariants as did
use Rattle.w_plain.proofs.Steps.{takes_alone}
use Rattle.w_plain.proofs.blocks.enter_choice.Goals as goal

pub returns : goal.returns
returns c =
    record { step = takes_alone did.Went c.args.program.now c.args.store.now c.args.stack.now c.choice.new.stack c.choice.ensures.goes c.choice.ensures.keeps; stays = c.choice.ensures.stays }
