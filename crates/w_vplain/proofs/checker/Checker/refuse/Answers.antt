use Rattle.std.proofs.Common.{refl}
use Rattle.w_vplain.proofs.CallsAnswered.{refuses}
use Rattle.w_vplain.proofs.checker.Checker.refuse.Goals as goal

pub returns-clause-refuses : goal.returns-clause-refuses
returns-clause-refuses c = refuses _ _ _ (record { context = refl; classes = refl }) refl refl
