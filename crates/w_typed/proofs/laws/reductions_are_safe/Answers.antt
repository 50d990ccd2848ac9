use Rattle.w_typed.proofs.Reductions.{reductions_are_safe}
use Rattle.w_typed.proofs.laws.reductions_are_safe.Goals as goal

pub returns : goal.returns
returns c = reductions_are_safe
