use Rattle.s_valid.proofs.ShortSpelling.{short_spelling}
use Rattle.s_valid.proofs.laws.spellings_of_scripts_are_short.Goals as goal

pub returns : goal.returns
returns c = record { short = short_spelling }
