use Rattle.w_spelled.proofs.ModulesGiven.{one_text}
use Rattle.w_spelled.proofs.laws.one_text.Goals as goal

pub returns : goal.returns
returns c = one_text
