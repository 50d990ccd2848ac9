use Rattle.drive.proofs.DumpedFiles.{dumped_files_are_built}
use Rattle.drive.proofs.laws.dumped_files_are_built.Goals as goal

pub returns : goal.returns
returns c = dumped_files_are_built
