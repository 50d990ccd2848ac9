use Rattle.w_canon.proofs.Preorder.{val_refl, val_trans}
use Rattle.w_canon.proofs.laws.val_matching_is_a_preorder.Goals as goal

pub returns : goal.returns
returns _ = record { reflexive = val_refl; transitive = val_trans }
