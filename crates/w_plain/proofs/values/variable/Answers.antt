use Rattle.w_stands.specs.declared.did.Did.TheVariants as did
use Rattle.w_plain.proofs.Steps.{takes_alone}
use Rattle.w_plain.proofs.values.variable.Goals as goal

pub returns-in-LocalGet : goal.returns-in-LocalGet
returns-in-LocalGet c =
    record { step = takes_alone did.Went c.args.program.now c.args.store.now c.args.stack.now c.local_get.new.stack c.local_get.ensures.goes c.local_get.ensures.keeps; stays = c.local_get.ensures.stays }

pub returns-in-LocalSet : goal.returns-in-LocalSet
returns-in-LocalSet c =
    record { step = takes_alone did.Went c.args.program.now c.args.store.now c.args.stack.now c.local_set.new.stack c.local_set.ensures.goes c.local_set.ensures.keeps; stays = c.local_set.ensures.stays }

pub returns-in-LocalTee : goal.returns-in-LocalTee
returns-in-LocalTee c =
    record { step = takes_alone did.Went c.args.program.now c.args.store.now c.args.stack.now c.local_tee.new.stack c.local_tee.ensures.goes c.local_tee.ensures.keeps; stays = c.local_tee.ensures.stays }
