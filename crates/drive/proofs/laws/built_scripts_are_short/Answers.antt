use Rattle.drive.proofs.BuiltFiles.{built_scripts_are_short}
use Rattle.drive.proofs.laws.built_scripts_are_short.Goals as goal

pub returns : goal.returns
returns c = built_scripts_are_short
