use Rattle.std.proofs.Common.{rules, ◌≡◌, ◌≤◌, ◌<◌, ◌-◌, length, get_or, arith, sym, ◌∙◌}
use Rattle.s_lex.proofs.Values.{value_step, value_done, too_great}
use Rattle.s_lex.proofs.words.number_of.Goals as goal

pub returns-then-value-digit-clause-none : goal.returns-then-value-digit-clause-none
returns-then-value-digit-clause-none c =
    let ds = c.args.digits.now in
    let h : c.loop-byte.byte-index < length ds = c.loop-byte-test.true in
    let d : c.digit-digit.result ≡ get_or ds c.loop-byte.byte-index 0 - 48 = search rules in
    let t = c.if-value-digit.true in
    too_great ds c.loop-byte.byte-index c.loop-byte.value _ h c.loop-byte.invariant.stands (omega (arith, d, t))

pub loop-byte-preserved : goal.loop-byte-preserved
loop-byte-preserved c =
    let ds = c.args.digits.now in
    let h : c.loop-byte.byte-index < length ds = c.loop-byte-test.true in
    let d : c.digit-digit.result ≡ get_or ds c.loop-byte.byte-index 0 - 48 = search rules in
    let s = value_step ds c.loop-byte.byte-index c.loop-byte.value h in
    record {
      stands = rw d (sym s ∙ c.loop-byte.invariant.stands);
      small = omega (arith, c.if-value-digit.false);
    }

pub returns-clause-some : goal.returns-clause-some
returns-clause-some c =
    let ds = c.args.digits.now in
    let h : length ds ≤ c.loop-byte.byte-index = c.loop-byte-test.false in
    sym (value_done ds c.loop-byte.byte-index c.loop-byte.value h) ∙ c.loop-byte.invariant.stands
