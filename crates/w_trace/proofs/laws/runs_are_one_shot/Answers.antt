use Rattle.w_trace.proofs.Fitting.{runs_one_shot}
use Rattle.w_trace.proofs.laws.runs_are_one_shot.Goals as goal

pub returns : goal.returns
returns c = runs_one_shot c.starts_are_typed.ensures c.plain_reductions_go_apart.ensures
