use Rattle.std.proofs.Common.{◌-◌}
use Rattle.w_switching.proofs.LeftHandles.{exits, exit_sound}
use Rattle.w_switching.proofs.Rooms.{merge_roomy}
use Rattle.w_switching.proofs.References.{spare_slot}
use Rattle.w_switching.proofs.handles.exit_handle.Goals as goal

pub release_one-requires : goal.release_one-requires
release_one-requires c = record { room = spare_slot c.args.chain.now c.args.conts.now c.requires.sound c.requires.two }

pub returns-clause-goes : goal.returns-clause-goes
returns-clause-goes c = exits c.args.chain.now c.merge.new.chain c.args.conts.now c.release_one.new.self c.requires.two c.merge.ensures.after c.release_one.ensures.after c.requires.values

pub returns-clause-sound : goal.returns-clause-sound
returns-clause-sound c = exit_sound c.args.chain.now c.merge.new.chain c.args.conts.now c.release_one.new.self c.requires.two c.merge.ensures.after c.release_one.ensures.after c.requires.sound

pub returns-clause-roomy : goal.returns-clause-roomy
returns-clause-roomy c = λ m h.
    merge_roomy m c.args.chain.now c.merge.new.chain c.args.conts.now c.release_one.new.self (c.args.conts.now.spare - 1) c.merge.ensures.after c.release_one.ensures.after h
