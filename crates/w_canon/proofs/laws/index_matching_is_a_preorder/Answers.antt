use Rattle.w_canon.specs.Matching.{IndexMatches}
use Rattle.w_canon.proofs.Equivalent.{reflexive}
use Rattle.w_canon.proofs.Supertypes.{index_trans}
use Rattle.w_canon.proofs.laws.index_matching_is_a_preorder.Goals as goal

pub returns : goal.returns
returns _ = record { reflexive = λ gs x. IndexMatches.same (reflexive gs x); transitive = index_trans; kept = λ gs x y s. IndexMatches.same s }
