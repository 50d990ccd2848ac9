use Rattle.w_stands.proofs.Bodies.{read_whole}
use Rattle.w_stands.proofs.laws.bodies_are_read.Goals as goal

pub returns : goal.returns
returns _ = read_whole
