use Rattle.w_trace.proofs.Redexes.{redexes_tell}
use Rattle.w_trace.proofs.laws.redexes_tell.Goals as goal

pub returns : goal.returns
returns c = redexes_tell c.plain_reductions_go_apart.ensures
