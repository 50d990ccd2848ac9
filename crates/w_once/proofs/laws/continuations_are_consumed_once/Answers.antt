use Rattle.w_once.proofs.EmptiedByRuns.{consumed_once}
use Rattle.w_once.proofs.laws.continuations_are_consumed_once.Goals as goal

pub returns : goal.returns
returns c = consumed_once c.starts_are_typed.ensures c.plain_reductions_go_apart.ensures
