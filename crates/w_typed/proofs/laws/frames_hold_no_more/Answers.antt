use Rattle.w_typed.proofs.FramesHold.{frames_hold}
use Rattle.w_typed.proofs.laws.frames_hold_no_more.Goals as goal

pub returns : goal.returns
returns c = frames_hold
