use Rattle.w_leb.specs.Number.{Signed, signed}
use Rattle.w_leb.specs.NumberLaws.{signed_exact}
use Rattle.w_leb.specs.ReadingLaws.{begins}
use Rattle.w_leb.proofs.reading.read_s64.Goals as goal

pub returns-clause-begins : goal.returns-clause-begins
returns-clause-begins c = begins (Signed 64) (signed 64) (signed_exact 64) _ _ _ c.signed_from.ensures.reads
