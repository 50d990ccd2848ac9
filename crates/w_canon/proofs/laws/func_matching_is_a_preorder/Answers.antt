use Rattle.w_canon.proofs.Preorder.{func_refl, func_trans}
use Rattle.w_canon.proofs.laws.func_matching_is_a_preorder.Goals as goal

pub returns : goal.returns
returns _ = record { reflexive = func_refl; transitive = func_trans }
