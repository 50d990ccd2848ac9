use Rattle.drive.proofs.OutsMeant.{stopped_runs_mean}
use Rattle.drive.proofs.laws.stopped_runs_of_scripts_mean.Goals as goal

pub returns : goal.returns
returns c = stopped_runs_mean
