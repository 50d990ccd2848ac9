use Rattle.w_trace.proofs.Runs.{events_are_one_shot}
use Rattle.w_trace.proofs.laws.events_are_one_shot.Goals as goal

pub returns : goal.returns
returns c = events_are_one_shot c.plain_reductions_go_apart.ensures
