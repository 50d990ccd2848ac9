use Rattle.w_canon.proofs.Preorder.{result_refl, result_trans}
use Rattle.w_canon.proofs.laws.result_matching_is_a_preorder.Goals as goal

pub returns : goal.returns
returns _ = record { reflexive = result_refl; transitive = result_trans }
