use Rattle.w_stands.specs.declared.did.Did.TheVariants as did
use Rattle.w_plain.proofs.Steps.{takes_alone}
use Rattle.w_plain.proofs.reduction.branch_of_suspend.Goals as goal

pub returns : goal.returns
returns c = record { step = takes_alone did.Went c.args.program.now c.args.store.now c.args.stack.now c.branch_left.new.stack c.branch_left.ensures.goes c.branch_left.ensures.keeps }
