use Rattle.w_encode.proofs.Canonical.{canon_ok}
use Rattle.w_encode.proofs.module.encode.Goals as goal

pub returns-clause-spelled : goal.returns-clause-spelled
returns-clause-spelled c = canon_ok c.args.program.now c.canonical.result c.canonical.ensures
