use Rattle.w_stands.specs.declared.did.Did.TheVariants as did
use Rattle.w_plain.proofs.Steps.{takes_alone}
use Rattle.w_plain.proofs.blocks.enter_block.Goals as goal

pub returns : goal.returns
returns c =
    record { step = takes_alone did.Went c.args.program.now c.args.store.now c.args.stack.now c.block.new.stack c.block.ensures.goes c.block.ensures.keeps; stays = c.block.ensures.stays }
