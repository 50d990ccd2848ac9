use Rattle.w_encode.proofs.Canonical.{canon_spells}
use Rattle.w_encode.proofs.laws.canonical_spells.Goals as goal

pub returns : goal.returns
returns _ = canon_spells
