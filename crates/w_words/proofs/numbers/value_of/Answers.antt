use Rattle.std.proofs.Common.{rules, ◌≡◌, ◌≤◌, ◌<◌, ◌-◌, length, get_or, arith, sym, ◌∙◌}
use Rattle.w_words.specs.Numbers.{value}
use Rattle.w_words.proofs.DigitByDigit.{value_step, value_done, too_great}
use Rattle.w_words.proofs.numbers.value_of.Goals as goal

pub returns-then-value-digit-clause-none : goal.returns-then-value-digit-clause-none
returns-then-value-digit-clause-none c =
    let ds = c.args.digits.now in
    let h : c.loop-byte.byte-index < length ds = c.loop-byte-test.true in
    let d : c.digit-digit.result ≡ get_or ds c.loop-byte.byte-index 0 - 48 = search rules in
    let t = c.if-value-digit.true in
    let g : 18446744073709551615 < value ds = too_great ds c.loop-byte.byte-index c.loop-byte.value 18446744073709551615 (value ds) h c.loop-byte.invariant (omega (arith, d, t)) in
    omega (arith, g)

pub loop-byte-preserved : goal.loop-byte-preserved
loop-byte-preserved c =
    let ds = c.args.digits.now in
    let h : c.loop-byte.byte-index < length ds = c.loop-byte-test.true in
    let d : c.digit-digit.result ≡ get_or ds c.loop-byte.byte-index 0 - 48 = search rules in
    rw d (sym (value_step ds c.loop-byte.byte-index c.loop-byte.value h) ∙ c.loop-byte.invariant)

pub returns-clause-some : goal.returns-clause-some
returns-clause-some c =
    let ds = c.args.digits.now in
    let h : length ds ≤ c.loop-byte.byte-index = c.loop-byte-test.false in
    sym (value_done ds c.loop-byte.byte-index c.loop-byte.value h) ∙ c.loop-byte.invariant
