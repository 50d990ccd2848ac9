use Rattle.w_trace.proofs.Runs.{events_consume}
use Rattle.w_trace.proofs.laws.events_consume.Goals as goal

pub returns : goal.returns
returns c = events_consume c.plain_reductions_go_apart.ensures
