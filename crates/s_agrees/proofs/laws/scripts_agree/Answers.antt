use Rattle.s_agrees.proofs.SpelledScripts.{scripts_agree}
use Rattle.s_agrees.proofs.laws.scripts_agree.Goals as goal

pub returns : goal.returns
returns c = scripts_agree
