use Rattle.w_once.proofs.EmptiedByRuns.{consumed_traps}
use Rattle.w_once.proofs.laws.consumed_continuations_trap.Goals as goal

pub returns : goal.returns
returns c = consumed_traps
