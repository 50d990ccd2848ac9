use Rattle.w_canon.proofs.Preorder.{val_refl, val_trans, result_refl, result_trans, func_refl, func_trans}
use Rattle.w_rules.proofs.ValidTypes.{keeps_kinds}
use Rattle.w_rules.proofs.laws.matching_in_valid_modules_is_a_preorder.Goals as goal

pub returns : goal.returns
returns _ = record {
  values = λ m valid. (val_refl m.types, val_trans m.types (keeps_kinds m valid));
  results = λ m valid. (result_refl m.types, result_trans m.types (keeps_kinds m valid));
  functions = λ m valid. (func_refl m.types, func_trans m.types (keeps_kinds m valid));
}
