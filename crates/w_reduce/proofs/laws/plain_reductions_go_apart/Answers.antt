use Rattle.w_reduce.proofs.Plainly.{plain_apart}
use Rattle.w_reduce.proofs.laws.plain_reductions_go_apart.Goals as goal

pub returns : goal.returns
returns _ = plain_apart
