use Rattle.w_reduce.proofs.Plainly.{no_more_frames}
use Rattle.w_reduce.proofs.laws.only_calls_add_frames.Goals as goal

pub returns : goal.returns
returns _ = no_more_frames
