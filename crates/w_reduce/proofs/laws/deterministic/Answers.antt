use Rattle.w_reduce.proofs.Trees.{deterministic}
use Rattle.w_reduce.proofs.laws.deterministic.Goals as goal

pub returns : goal.returns
returns _ = deterministic
