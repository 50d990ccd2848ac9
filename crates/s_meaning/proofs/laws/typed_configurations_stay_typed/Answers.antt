use Rattle.s_meaning.proofs.TypedRuns.{preserved}
use Rattle.s_meaning.proofs.laws.typed_configurations_stay_typed.Goals as goal

pub returns : goal.returns
returns _ = preserved
