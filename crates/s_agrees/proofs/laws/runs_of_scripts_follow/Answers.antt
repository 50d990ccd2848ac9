use Rattle.s_agrees.proofs.Follow.{runs_follow}
use Rattle.s_agrees.proofs.laws.runs_of_scripts_follow.Goals as goal

pub returns : goal.returns
returns c = runs_follow
