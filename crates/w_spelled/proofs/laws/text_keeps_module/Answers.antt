use Rattle.w_spelled.proofs.ModulesGiven.{text_keeps_module}
use Rattle.w_spelled.proofs.laws.text_keeps_module.Goals as goal

pub returns : goal.returns
returns c = text_keeps_module
