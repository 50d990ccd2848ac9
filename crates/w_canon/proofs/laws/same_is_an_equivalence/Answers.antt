use Rattle.w_canon.proofs.Equivalent.{reflexive, symmetric, transitive}
use Rattle.w_canon.proofs.laws.same_is_an_equivalence.Goals as goal

pub returns : goal.returns
returns _ = record { reflexive = reflexive; symmetric = symmetric; transitive = transitive }
