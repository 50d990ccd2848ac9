use Rattle.w_typed.proofs.Captures.{suspends_typed, switches_typed}
use Rattle.w_typed.proofs.laws.captures_are_typed.Goals as goal

pub returns : goal.returns
returns c = record { suspends = suspends_typed; switches = switches_typed }
