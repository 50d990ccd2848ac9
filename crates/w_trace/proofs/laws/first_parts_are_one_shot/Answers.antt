use Rattle.w_trace.proofs.Uses.{first_part}
use Rattle.w_trace.proofs.laws.first_parts_are_one_shot.Goals as goal

pub returns : goal.returns
returns c = first_part
