use Rattle.std.proofs.Common.{◌<◌, arith, rules}
use Rattle.w_leb.proofs.Places.{unsigned_high, wider, room}
use Rattle.w_leb.proofs.reading.unsigned_pair.Goals as goal

pub overflow_mul-result : goal.overflow_mul-result
overflow_mul-result c = let w : 7 < c.args.width = omega (arith, c.requires.low) in omega (arith, room c.args.width c.in_ok-high.high w c.requires.high c.in_ok-high.ensures.fits)

pub overflow_add-result : goal.overflow_add-result
overflow_add-result c = let w : 7 < c.args.width = omega (arith, c.requires.low) in omega (arith, room c.args.width c.in_ok-high.high w c.requires.high c.in_ok-high.ensures.fits)

pub returns-clause-reads : goal.returns-clause-reads
returns-clause-reads c = (unsigned_high _ _ _ _ _ _ c.in_ok-byte.ensures.0 c.if-byte-lt128.false (search rules) (omega (arith, c.requires.low)) c.in_ok-high.ensures.reads.0, omega (arith, c.in_ok-byte.ensures.1, c.in_ok-high.ensures.reads.1), c.in_ok-high.ensures.reads.2)

pub returns-clause-fits : goal.returns-clause-fits
returns-clause-fits c =
    let w : 7 < c.args.width = omega (arith, c.requires.low) in
    let h = c.in_ok-high.ensures.fits in
    let k = wider c.args.width w in
    omega (arith, c.ranges)
