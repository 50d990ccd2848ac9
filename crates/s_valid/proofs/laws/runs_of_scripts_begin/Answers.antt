use Rattle.s_valid.proofs.Starts.{starts}
use Rattle.s_valid.proofs.laws.runs_of_scripts_begin.Goals as goal

pub returns : goal.returns
returns c = record { begin = starts }
