use Rattle.w_rules.proofs.JoinedTypes.{types_of-joined}
use Rattle.w_rules.proofs.laws.joining_keeps_types.Goals as goal

pub returns : goal.returns
returns _ = types_of-joined
