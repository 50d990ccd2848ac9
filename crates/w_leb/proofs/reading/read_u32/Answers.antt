use Rattle.w_leb.specs.Number.{Unsigned, unsigned}
use Rattle.w_leb.specs.ReadingLaws.{begins_none, begins_some}
use Rattle.w_leb.specs.NumberLaws.{unsigned_exact}
use Rattle.w_leb.proofs.reading.read_u32.Goals as goal

pub returns-in_default-clause-begins : goal.returns-in_default-clause-begins
returns-in_default-clause-begins c = begins_none (Unsigned 32) (unsigned 32) (unsigned_exact 32) _ _ c.in_default.ensures.reads

pub returns-clause-begins : goal.returns-clause-begins
returns-clause-begins c = let h = c.in-Some.ensures.reads in (h.1, h.2, begins_some (Unsigned 32) (unsigned 32) (unsigned_exact 32) _ _ _ _ h.0 h.1 h.2)
