use Rattle.w_linked.proofs.LinkedFacts.{codes_are_of_files}
use Rattle.w_linked.proofs.laws.codes_are_of_files.Goals as goal

pub returns : goal.returns
returns _ = record { codes = codes_are_of_files }
