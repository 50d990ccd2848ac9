use Rattle.w_reduce.proofs.Trees.{decomposes}
use Rattle.w_reduce.proofs.laws.decomposes.Goals as goal

pub returns : goal.returns
returns _ = decomposes
