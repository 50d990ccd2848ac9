use Rattle.w_link.proofs.Carried.{carried, body_carried}
use Rattle.w_link.proofs.laws.code_is_typed_among_all.Goals as goal

pub returns : goal.returns
returns _ = record { code = carried; bodies = body_carried }
