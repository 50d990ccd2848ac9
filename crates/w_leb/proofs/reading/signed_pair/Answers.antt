use Rattle.std.proofs.Common.{◌<◌, drop, arith, rules, ap, ◌∙◌, Some, ℤ}
use Rattle.w_leb.proofs.Places.{signed_high, high_is, mul_fits}
use Rattle.w_leb.proofs.reading.signed_pair.Goals as goal

pub overflow_mul-result : goal.overflow_mul-result
overflow_mul-result c = mul_fits c.args.width c.in_ok-high.high (omega (arith, c.requires.low)) c.requires.high c.in_ok-high.ensures.fits

pub returns-clause-reads : goal.returns-clause-reads
returns-clause-reads c =
    let f : c.in_ok-byte.byte < 256 = search rules in
    let w : 7 < c.args.width = omega (arith, c.requires.low) in
    let e = (high_is c.in_ok-byte.byte c.args.width c.in_ok-high.high c.if-byte-lt128.false f w c.requires.high c.in_ok-high.ensures.fits).0 in
    (signed_high _ _ _ _ _ _ c.in_ok-byte.ensures.0 c.if-byte-lt128.false f w c.in_ok-high.ensures.reads.0 ∙ ap (λ (z : ℤ). Some (z, drop c.in_ok-high.next c.args.bytes.now)) e, omega (arith, c.in_ok-byte.ensures.1, c.in_ok-high.ensures.reads.1), c.in_ok-high.ensures.reads.2)

pub returns-clause-fits : goal.returns-clause-fits
returns-clause-fits c =
    let f : c.in_ok-byte.byte < 256 = search rules in
    let w : 7 < c.args.width = omega (arith, c.requires.low) in
    (high_is c.in_ok-byte.byte c.args.width c.in_ok-high.high c.if-byte-lt128.false f w c.requires.high c.in_ok-high.ensures.fits).1
