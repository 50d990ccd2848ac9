use Rattle.drive.proofs.BuiltFiles.{build_is_idempotent}
use Rattle.drive.proofs.laws.build_is_idempotent.Goals as goal

pub returns : goal.returns
returns c = build_is_idempotent
