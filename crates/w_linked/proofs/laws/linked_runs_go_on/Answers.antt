use Rattle.w_linked.proofs.LinkedStart.{linked_runs_go_on}
use Rattle.w_linked.proofs.laws.linked_runs_go_on.Goals as goal

pub returns : goal.returns
returns _ = record { goes_on = linked_runs_go_on }
