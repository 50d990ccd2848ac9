use Rattle.s_valid.proofs.LoweredValid.{lowered_valid}
use Rattle.s_valid.proofs.ModuleLimits.{within}
use Rattle.s_valid.proofs.laws.modules_of_scripts_are_valid.Goals as goal

pub returns : goal.returns
returns c = record { valid = λ p good small. (lowered_valid p good, within p good small) }
