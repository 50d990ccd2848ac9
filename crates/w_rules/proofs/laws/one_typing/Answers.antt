use Rattle.w_rules.proofs.Rules.{one_typing}
use Rattle.w_rules.proofs.laws.one_typing.Goals as goal

pub returns : goal.returns
returns _ = one_typing
