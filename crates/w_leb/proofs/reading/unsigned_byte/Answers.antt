use Rattle.std.proofs.Common.{arith}
use Rattle.w_leb.proofs.Places.{unsigned_last, wide}
use Rattle.w_leb.proofs.reading.unsigned_byte.Goals as goal

pub returns-then-byte-lt128-clause-reads : goal.returns-then-byte-lt128-clause-reads
returns-then-byte-lt128-clause-reads c = (unsigned_last _ _ _ _ c.in_ok-byte.ensures.0 c.if-byte-lt128.true (omega (arith, wide c.args.width c.requires)), c.in_ok-byte.ensures.1, c.in_ok-byte.ensures.2)

pub returns-then-byte-lt128-clause-fits : goal.returns-then-byte-lt128-clause-fits
returns-then-byte-lt128-clause-fits c = omega (arith, wide c.args.width c.requires)
