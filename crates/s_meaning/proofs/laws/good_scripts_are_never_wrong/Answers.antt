use Rattle.s_meaning.proofs.TypedRuns.{never_wrong}
use Rattle.s_meaning.proofs.laws.good_scripts_are_never_wrong.Goals as goal

pub returns : goal.returns
returns _ = never_wrong
