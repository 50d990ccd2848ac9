use Rattle.w_configuration.proofs.PartsOfRuns.{known_sound}
use Rattle.w_configuration.proofs.LeftHandles.{left_handle}
use Rattle.w_configuration.proofs.Rooms.{leaving_room}
use Rattle.w_configuration.proofs.reduction.leave_handle.Goals as goal

pub exit_handle-requires-clause-sound : goal.exit_handle-requires-clause-sound
exit_handle-requires-clause-sound c = c.requires.stands.stands.sound

pub exit_handle-requires-clause-room : goal.exit_handle-requires-clause-room
exit_handle-requires-clause-room c = leaving_room (known_sound c.args.program.known c.module-module.ensures.sound) c.requires.stands c.requires.two c.requires.values

pub returns-clause-reduces : goal.returns-clause-reduces
returns-clause-reduces c = λ held.
    left_handle c.exit_handle.new.chain c.exit_handle.new.conts c.exit_handle.ensures.goes c.exit_handle.ensures.sound c.exit_handle.ensures.roomy c.exit_handle.ensures.references held
