use Rattle.w_trace.proofs.Texts.{traces_are_right}
use Rattle.w_trace.proofs.laws.traces_are_right.Goals as goal

pub returns : goal.returns
returns c = traces_are_right
