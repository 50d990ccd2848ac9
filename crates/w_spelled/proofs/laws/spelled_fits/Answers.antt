use Rattle.w_spelled.proofs.ModulesGiven.{spelled_fits}
use Rattle.w_spelled.proofs.laws.spelled_fits.Goals as goal

pub returns : goal.returns
returns c = spelled_fits
