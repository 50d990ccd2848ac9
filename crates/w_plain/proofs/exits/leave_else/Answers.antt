use Rattle.w_stands.specs.declared.did.Did.TheVariants as did
use Rattle.w_plain.proofs.Steps.{takes_alone}
use Rattle.w_plain.proofs.exits.leave_else.Goals as goal

pub returns : goal.returns
returns c =
    record { step = takes_alone did.Went c.args.program.now c.args.store.now c.args.stack.now c.exit_else.new.stack c.exit_else.ensures.goes c.exit_else.ensures.keeps }
