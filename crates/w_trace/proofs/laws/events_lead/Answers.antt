use Rattle.w_trace.proofs.Runs.{events_lead}
use Rattle.w_trace.proofs.laws.events_lead.Goals as goal

pub returns : goal.returns
returns c = events_lead c.plain_reductions_go_apart.ensures
