use Rattle.w_link.proofs.ShiftedMatching.{index_carried, val_carried, func_carried, val_equal_carried}
use Rattle.w_link.proofs.ShiftedTypes.{stand_among}
use Rattle.w_link.proofs.laws.types_stand_among_all.Goals as goal

pub returns : goal.returns
returns _ = record {
  groups = stand_among;
  indices = λ n gs hs stand x y h. index_carried n gs hs stand h;
  values = val_carried;
  functions = func_carried;
  equal = val_equal_carried;
}
