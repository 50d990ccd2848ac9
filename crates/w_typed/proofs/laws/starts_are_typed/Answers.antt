use Rattle.w_typed.proofs.FirstConfigurations.{starts_typed}
use Rattle.w_typed.proofs.laws.starts_are_typed.Goals as goal

pub returns : goal.returns
returns c = starts_typed
