use Rattle.w_decode.proofs.ReadingExact.{one_module}
use Rattle.w_decode.proofs.laws.one_module.Goals as goal

pub returns : goal.returns
returns c = one_module
