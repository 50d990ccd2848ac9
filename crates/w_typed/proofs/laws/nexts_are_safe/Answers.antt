use Rattle.w_typed.proofs.Reductions.{nexts_are_safe}
use Rattle.w_typed.proofs.laws.nexts_are_safe.Goals as goal

pub returns : goal.returns
returns c = nexts_are_safe
