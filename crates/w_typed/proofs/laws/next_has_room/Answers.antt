use Rattle.w_typed.proofs.FramesHold.{next_has_room}
use Rattle.w_typed.proofs.laws.next_has_room.Goals as goal

pub returns : goal.returns
returns c = next_has_room
