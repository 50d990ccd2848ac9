use Rattle.w_reduce.proofs.Plainly.{only_switches}
use Rattle.w_reduce.proofs.laws.only_switches_are_unhandled.Goals as goal

pub returns : goal.returns
returns _ = only_switches
