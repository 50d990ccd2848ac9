use Rattle.std.proofs.Common.{◌^◌, ◌<◌, ◌≤◌, ◌-◌, drop, arith, ap, ◌∙◌, Some, ℤ}
use Rattle.w_leb.proofs.Places.{signed_low, signed_up, half_wide, low_is, up_is}
use Rattle.w_leb.proofs.reading.signed_byte.Goals as goal

pub returns-then-byte-lt64-clause-reads : goal.returns-then-byte-lt64-clause-reads
returns-then-byte-lt64-clause-reads c =
    let f : c.in_ok-byte.byte < 2 ^ (c.args.width - 1) = omega (arith, half_wide c.args.width c.requires) in
    (signed_low _ _ _ _ c.in_ok-byte.ensures.0 c.if-byte-lt64.true f ∙ ap (λ (z : ℤ). Some (z, drop c.in_ok-byte.next c.args.bytes.now)) (low_is c.in_ok-byte.byte c.args.width c.if-byte-lt64.true f).0, c.in_ok-byte.ensures.1, c.in_ok-byte.ensures.2)

pub returns-then-byte-lt64-clause-fits : goal.returns-then-byte-lt64-clause-fits
returns-then-byte-lt64-clause-fits c =
    let f : c.in_ok-byte.byte < 2 ^ (c.args.width - 1) = omega (arith, half_wide c.args.width c.requires) in
    (low_is c.in_ok-byte.byte c.args.width c.if-byte-lt64.true f).1

pub returns-then-byte-lt128-clause-reads : goal.returns-then-byte-lt128-clause-reads
returns-then-byte-lt128-clause-reads c =
    let f : 128 - c.in_ok-byte.byte ≤ 2 ^ (c.args.width - 1) = omega (arith, half_wide c.args.width c.requires) in
    (signed_up _ _ _ _ c.in_ok-byte.ensures.0 c.if-byte-lt64.false c.if-byte-lt128.true f ∙ ap (λ (z : ℤ). Some (z, drop c.in_ok-byte.next c.args.bytes.now)) (up_is c.in_ok-byte.byte c.args.width c.if-byte-lt128.true f).0, c.in_ok-byte.ensures.1, c.in_ok-byte.ensures.2)

pub returns-then-byte-lt128-clause-fits : goal.returns-then-byte-lt128-clause-fits
returns-then-byte-lt128-clause-fits c =
    let f : 128 - c.in_ok-byte.byte ≤ 2 ^ (c.args.width - 1) = omega (arith, half_wide c.args.width c.requires) in
    (up_is c.in_ok-byte.byte c.args.width c.if-byte-lt128.true f).1
