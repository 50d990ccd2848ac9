use Rattle.w_typed.proofs.Captures as captures
use Rattle.w_typed.proofs.laws.kept_contexts_are_terms.Goals as goal

pub returns : goal.returns
returns c = captures.kept_contexts_are_terms
