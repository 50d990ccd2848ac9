use Rattle.w_encode.proofs.SpelledModules.{parts_spelled}
use Rattle.w_encode.proofs.laws.parts_spell.Goals as goal

pub returns : goal.returns
returns _ = parts_spelled
