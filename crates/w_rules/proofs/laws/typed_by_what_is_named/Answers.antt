use Rattle.w_rules.proofs.DataNeeds.{typed_has, typed_alike, peak_same}
use Rattle.w_rules.proofs.laws.typed_by_what_is_named.Goals as goal

pub returns-clause-has : goal.returns-clause-has
returns-clause-has c = typed_has

pub returns-clause-typed : goal.returns-clause-typed
returns-clause-typed c = λ x n d k s ts us t le. typed_alike x n d k s ts us (typed_has x n k s ts us t) le t

pub returns-clause-peak : goal.returns-clause-peak
returns-clause-peak c = peak_same
