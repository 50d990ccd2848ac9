use Rattle.w_canon.proofs.Supertypes.{supertype_same}
use Rattle.w_canon.proofs.laws.equivalent_types_have_equivalent_supertypes.Goals as goal

pub returns : goal.returns
returns _ = supertype_same
