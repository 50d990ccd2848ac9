use Rattle.w_linked.proofs.OneFile.{one_file_starts, one_file_runs, one_file_runs_alone}
use Rattle.w_linked.proofs.laws.one_file_runs.Goals as goal

pub returns : goal.returns
returns _ = record { starts = one_file_starts; program = one_file_runs; runs = one_file_runs_alone }
