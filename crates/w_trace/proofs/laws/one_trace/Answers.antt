use Rattle.w_trace.proofs.Texts.{one_trace}
use Rattle.w_trace.proofs.laws.one_trace.Goals as goal

pub returns : goal.returns
returns c = one_trace
