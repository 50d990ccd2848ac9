use Rattle.w_typed.proofs.TypedRuns.{runs_are_typed}
use Rattle.w_typed.proofs.laws.runs_are_typed.Goals as goal

pub returns : goal.returns
returns c = runs_are_typed
