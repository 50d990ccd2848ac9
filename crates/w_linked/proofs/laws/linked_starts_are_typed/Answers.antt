use Rattle.w_linked.proofs.LinkedStart.{linked_starts_typed}
use Rattle.w_linked.proofs.laws.linked_starts_are_typed.Goals as goal

pub returns : goal.returns
returns _ = record { typed = linked_starts_typed }
