use Rattle.drive.proofs.BuiltRuns.{built_runs}
use Rattle.drive.proofs.laws.built_runs_are_alike.Goals as goal

pub returns : goal.returns
returns _ = built_runs
