use Rattle.drive.proofs.BuiltFiles.{built_files_are_accepted}
use Rattle.drive.proofs.laws.built_files_are_accepted.Goals as goal

pub returns : goal.returns
returns c = built_files_are_accepted
