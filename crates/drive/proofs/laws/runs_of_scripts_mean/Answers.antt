use Rattle.drive.proofs.MeaningsOfRuns.{runs_mean}
use Rattle.drive.proofs.laws.runs_of_scripts_mean.Goals as goal

pub returns : goal.returns
returns c = runs_mean
