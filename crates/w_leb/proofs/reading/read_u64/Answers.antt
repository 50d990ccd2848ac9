use Rattle.w_leb.specs.Number.{Unsigned, unsigned}
use Rattle.w_leb.specs.NumberLaws.{unsigned_exact}
use Rattle.w_leb.specs.ReadingLaws.{begins}
use Rattle.w_leb.proofs.reading.read_u64.Goals as goal

pub returns-clause-begins : goal.returns-clause-begins
returns-clause-begins c = begins (Unsigned 64) (unsigned 64) (unsigned_exact 64) _ _ _ c.unsigned_from.ensures.reads
