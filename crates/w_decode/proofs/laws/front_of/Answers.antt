use Rattle.w_decode.proofs.ContinuedModules.{front_of}
use Rattle.w_decode.proofs.laws.front_of.Goals as goal

pub returns : goal.returns
returns c = front_of
