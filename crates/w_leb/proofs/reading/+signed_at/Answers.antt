use Rattle.std.proofs.Common.{◌^◌, ◌<◌, ◌≤◌, ◌-◌, drop, arith, rules, ap, ◌∙◌, Some, ℤ}
use Rattle.w_leb.proofs.Places.{signed_past, signed_low, signed_low_big, signed_up, signed_up_big, signed_narrow, signed_high, signed_none, half_wide, half_narrow, low_is, up_is, high_is, mul_fits}
use Rattle.w_leb.proofs.reading.+signed_at.Goals as goal
use Rattle.w_leb.proofs.reading.+signed_at.Goals.{else-width-lt7-via-then-width-lt7+else-byte-width, else-width-lt7-via-else-width-lt7, else-width-lt7-2-via-then-width-lt7-2+else-below-width, else-width-lt7-2-via-else-width-lt7-2}

pub returns-in_default-clause-reads : goal.returns-in_default-clause-reads
returns-in_default-clause-reads t c = signed_past c.args.width (drop c.args.at c.args.bytes.now) c.in_default.ensures

pub returns-then-byte-width-clause-reads : goal.returns-then-byte-width-clause-reads
returns-then-byte-width-clause-reads t c = signed_low_big _ _ _ _ c.in-Some.ensures.0 c.if-byte-lt64.true (omega (arith, half_narrow c.args.width c.if-width-lt7.true))

pub returns-then-byte-lt64-clause-reads : goal.returns-then-byte-lt64-clause-reads
returns-then-byte-lt64-clause-reads t c =
    let f : c.in-Some.byte < 2 ^ (c.args.width - 1) = elim c.else-width-lt7.branch [
      | else-width-lt7-via-then-width-lt7+else-byte-width w ↦ omega (arith, half_narrow c.args.width w.if-width-lt7.true, w.if-byte-width.false)
      | else-width-lt7-via-else-width-lt7 w ↦ omega (arith, half_wide c.args.width w.if-width-lt7.false)
    ] in
    (signed_low _ _ _ _ c.in-Some.ensures.0 c.if-byte-lt64.true f ∙ ap (λ (z : ℤ). Some (z, drop c.in-Some.next c.args.bytes.now)) (low_is c.in-Some.byte c.args.width c.if-byte-lt64.true f).0, c.in-Some.ensures.1, c.in-Some.ensures.2)

pub returns-then-byte-lt64-clause-fits : goal.returns-then-byte-lt64-clause-fits
returns-then-byte-lt64-clause-fits t c =
    let f : c.in-Some.byte < 2 ^ (c.args.width - 1) = elim c.else-width-lt7.branch [
      | else-width-lt7-via-then-width-lt7+else-byte-width w ↦ omega (arith, half_narrow c.args.width w.if-width-lt7.true, w.if-byte-width.false)
      | else-width-lt7-via-else-width-lt7 w ↦ omega (arith, half_wide c.args.width w.if-width-lt7.false)
    ] in
    (low_is c.in-Some.byte c.args.width c.if-byte-lt64.true f).1

pub returns-then-below-width-clause-reads : goal.returns-then-below-width-clause-reads
returns-then-below-width-clause-reads t c = signed_up_big _ _ _ _ c.in-Some.ensures.0 c.if-byte-lt64.false c.if-byte-lt128.true (omega (arith, half_narrow c.args.width c.if-width-lt7-2.true))

pub returns-then-byte-lt128-clause-reads : goal.returns-then-byte-lt128-clause-reads
returns-then-byte-lt128-clause-reads t c =
    let f : 128 - c.in-Some.byte ≤ 2 ^ (c.args.width - 1) = elim c.else-width-lt7-2.branch [
      | else-width-lt7-2-via-then-width-lt7-2+else-below-width w ↦ omega (arith, half_narrow c.args.width w.if-width-lt7-2.true, w.if-below-width.false)
      | else-width-lt7-2-via-else-width-lt7-2 w ↦ omega (arith, half_wide c.args.width w.if-width-lt7-2.false)
    ] in
    (signed_up _ _ _ _ c.in-Some.ensures.0 c.if-byte-lt64.false c.if-byte-lt128.true f ∙ ap (λ (z : ℤ). Some (z, drop c.in-Some.next c.args.bytes.now)) (up_is c.in-Some.byte c.args.width c.if-byte-lt128.true f).0, c.in-Some.ensures.1, c.in-Some.ensures.2)

pub returns-then-byte-lt128-clause-fits : goal.returns-then-byte-lt128-clause-fits
returns-then-byte-lt128-clause-fits t c =
    let f : 128 - c.in-Some.byte ≤ 2 ^ (c.args.width - 1) = elim c.else-width-lt7-2.branch [
      | else-width-lt7-2-via-then-width-lt7-2+else-below-width w ↦ omega (arith, half_narrow c.args.width w.if-width-lt7-2.true, w.if-below-width.false)
      | else-width-lt7-2-via-else-width-lt7-2 w ↦ omega (arith, half_wide c.args.width w.if-width-lt7-2.false)
    ] in
    (up_is c.in-Some.byte c.args.width c.if-byte-lt128.true f).1

pub returns-then-width-le7-clause-reads : goal.returns-then-width-le7-clause-reads
returns-then-width-le7-clause-reads t c = signed_narrow _ _ _ _ c.in-Some.ensures.0 c.if-byte-lt128.false c.if-width-le7.true

pub returns-in_default-signed_at-clause-reads : goal.returns-in_default-signed_at-clause-reads
returns-in_default-signed_at-clause-reads t c = signed_none _ _ _ _ c.in-Some.ensures.0 c.if-byte-lt128.false (search rules) c.if-width-le7.false c.in_default-signed_at.ensures.reads

pub overflow_mul-result : goal.overflow_mul-result
overflow_mul-result t c = mul_fits c.args.width c.in-Some-signed_at.high c.if-width-le7.false c.requires.high c.in-Some-signed_at.ensures.fits

pub returns-clause-reads : goal.returns-clause-reads
returns-clause-reads t c =
    let f : c.in-Some.byte < 256 = search rules in
    let e = (high_is c.in-Some.byte c.args.width c.in-Some-signed_at.high c.if-byte-lt128.false f c.if-width-le7.false c.requires.high c.in-Some-signed_at.ensures.fits).0 in
    (signed_high _ _ _ _ _ _ c.in-Some.ensures.0 c.if-byte-lt128.false (search rules) c.if-width-le7.false c.in-Some-signed_at.ensures.reads.0 ∙ ap (λ (z : ℤ). Some (z, drop c.in-Some-signed_at.next c.args.bytes.now)) e, omega (arith, c.in-Some.ensures.1, c.in-Some-signed_at.ensures.reads.1), c.in-Some-signed_at.ensures.reads.2)

pub returns-clause-fits : goal.returns-clause-fits
returns-clause-fits t c =
    let f : c.in-Some.byte < 256 = search rules in
    (high_is c.in-Some.byte c.args.width c.in-Some-signed_at.high c.if-byte-lt128.false f c.if-width-le7.false c.requires.high c.in-Some-signed_at.ensures.fits).1
