use Rattle.std.proofs.Common.{drop, arith, rules}
use Rattle.w_leb.proofs.Places.{unsigned_past, unsigned_last, unsigned_big, unsigned_narrow, unsigned_high, unsigned_none, wide, wider, narrow, room}
use Rattle.w_leb.proofs.reading.+unsigned_at.Goals as goal
use Rattle.w_leb.proofs.reading.+unsigned_at.Goals.{else-width-lt7-via-then-width-lt7+else-byte-width, else-width-lt7-via-else-width-lt7}

pub returns-in_default-clause-reads : goal.returns-in_default-clause-reads
returns-in_default-clause-reads t c = unsigned_past c.args.width (drop c.args.at c.args.bytes.now) c.in_default.ensures

pub returns-then-byte-width-clause-reads : goal.returns-then-byte-width-clause-reads
returns-then-byte-width-clause-reads t c = unsigned_big _ _ _ _ c.in-Some.ensures.0 c.if-byte-lt128.true (omega (arith, narrow c.args.width c.if-width-lt7.true))

pub returns-then-byte-lt128-clause-reads : goal.returns-then-byte-lt128-clause-reads
returns-then-byte-lt128-clause-reads t c = (unsigned_last _ _ _ _ c.in-Some.ensures.0 c.if-byte-lt128.true (elim c.else-width-lt7.branch [ else-width-lt7-via-then-width-lt7+else-byte-width w ↦ omega (arith, narrow c.args.width w.if-width-lt7.true, w.if-byte-width.false) | else-width-lt7-via-else-width-lt7 w ↦ omega (arith, wide c.args.width w.if-width-lt7.false) ]), c.in-Some.ensures.1, c.in-Some.ensures.2)

pub returns-then-byte-lt128-clause-fits : goal.returns-then-byte-lt128-clause-fits
returns-then-byte-lt128-clause-fits t c = elim c.else-width-lt7.branch [ else-width-lt7-via-then-width-lt7+else-byte-width w ↦ omega (arith, narrow c.args.width w.if-width-lt7.true, w.if-byte-width.false) | else-width-lt7-via-else-width-lt7 w ↦ omega (arith, wide c.args.width w.if-width-lt7.false) ]

pub returns-then-width-le7-clause-reads : goal.returns-then-width-le7-clause-reads
returns-then-width-le7-clause-reads t c = unsigned_narrow _ _ _ _ c.in-Some.ensures.0 c.if-byte-lt128.false c.if-width-le7.true

pub returns-in_default-unsigned_at-clause-reads : goal.returns-in_default-unsigned_at-clause-reads
returns-in_default-unsigned_at-clause-reads t c = unsigned_none _ _ _ _ c.in-Some.ensures.0 c.if-byte-lt128.false (search rules) c.if-width-le7.false c.in_default-unsigned_at.ensures.reads

pub overflow_mul-result : goal.overflow_mul-result
overflow_mul-result t c = omega (arith, room c.args.width c.in-Some-unsigned_at.high c.if-width-le7.false c.requires c.in-Some-unsigned_at.ensures.fits)

pub overflow_add-result : goal.overflow_add-result
overflow_add-result t c = omega (arith, room c.args.width c.in-Some-unsigned_at.high c.if-width-le7.false c.requires c.in-Some-unsigned_at.ensures.fits)

pub returns-clause-reads : goal.returns-clause-reads
returns-clause-reads t c = (unsigned_high _ _ _ _ _ _ c.in-Some.ensures.0 c.if-byte-lt128.false (search rules) c.if-width-le7.false c.in-Some-unsigned_at.ensures.reads.0, omega (arith, c.in-Some.ensures.1, c.in-Some-unsigned_at.ensures.reads.1), c.in-Some-unsigned_at.ensures.reads.2)

pub returns-clause-fits : goal.returns-clause-fits
returns-clause-fits t c = let h = c.in-Some-unsigned_at.ensures.fits in let k = wider c.args.width c.if-width-le7.false in omega (arith, c.ranges)
