use Rattle.w_linked.proofs.LinkedSound.{files_fit}
use Rattle.w_linked.proofs.laws.files_fit.Goals as goal

pub returns : goal.returns
returns _ = record { fit = files_fit }
