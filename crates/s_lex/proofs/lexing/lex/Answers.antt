use Rattle.std.proofs.Common.{rules, ◌≤◌, ◌+◌, length, arith}
use Rattle.s_lex.proofs.BytesIntoTokens.{token_fits, blank_fits, so_far_blank, so_far_token, so_far_bad, so_far_ends}
use Rattle.s_lex.proofs.TokenTexts.{texts, order, only}
use Rattle.s_lex.proofs.lexing.lex.Goals as goal

pub overflow_add-at : goal.overflow_add-at
overflow_add-at c =
    let t = blank_fits c.args.bytes.now c.loop-at.at c.in-Blank.count c.loop-at-test.true c.in-Blank.ensures.value in
    let b : c.loop-at.at + c.in-Blank.count ≤ length c.args.bytes.now = t.1 in
    search rules

pub loop-at-smaller-in-Blank : goal.loop-at-smaller-in-Blank
loop-at-smaller-in-Blank c =
    let t = blank_fits c.args.bytes.now c.loop-at.at c.in-Blank.count c.loop-at-test.true c.in-Blank.ensures.value in
    omega (arith, t.0, t.1)

pub loop-at-preserved-in-Blank : goal.loop-at-preserved-in-Blank
loop-at-preserved-in-Blank c =
    let bs = c.args.bytes.now in
    let t = blank_fits bs c.loop-at.at c.in-Blank.count c.loop-at-test.true c.in-Blank.ensures.value in
    record {
      so_far = so_far_blank bs c.loop-at.tokens c.loop-at.at c.in-Blank.count c.loop-at-test.true c.in-Blank.ensures.value c.loop-at.invariant.so_far;
      within = t.1;
    }

pub overflow_add-end : goal.overflow_add-end
overflow_add-end c =
    let t = token_fits c.args.bytes.now c.loop-at.at c.in-Token.count c.in-Token.kind c.loop-at-test.true c.in-Token.ensures.value in
    let b : c.loop-at.at + c.in-Token.count ≤ length c.args.bytes.now = t.1 in
    search rules

pub loop-at-smaller : goal.loop-at-smaller
loop-at-smaller c =
    let t = token_fits c.args.bytes.now c.loop-at.at c.in-Token.count c.in-Token.kind c.loop-at-test.true c.in-Token.ensures.value in
    omega (arith, t.0, t.1)

pub loop-at-preserved : goal.loop-at-preserved
loop-at-preserved c =
    let bs = c.args.bytes.now in
    let t = token_fits bs c.loop-at.at c.in-Token.count c.in-Token.kind c.loop-at-test.true c.in-Token.ensures.value in
    record {
      so_far = so_far_token bs c.loop-at.tokens c.push.new.self c.loop-at.at c.in-Token.count c.in-Token.kind c.loop-at-test.true c.in-Token.ensures.value c.in_ok-push-in-Token.ensures.ok c.loop-at.invariant.so_far;
      within = t.1;
    }

pub returns-in-Bad-clause-err : goal.returns-in-Bad-clause-err
returns-in-Bad-clause-err c = λ _. so_far_bad c.args.bytes.now c.loop-at.tokens c.loop-at.at c.loop-at-test.true c.in-Bad.ensures.value c.loop-at.invariant.so_far

pub returns-in-Bad-clause-only : goal.returns-in-Bad-clause-only
returns-in-Bad-clause-only c = λ r h. only c.args.bytes.now _ r (so_far_bad c.args.bytes.now c.loop-at.tokens c.loop-at.at c.loop-at-test.true c.in-Bad.ensures.value c.loop-at.invariant.so_far) h

pub returns-clause-ok : goal.returns-clause-ok
returns-clause-ok c = so_far_ends c.args.bytes.now c.loop-at.tokens c.loop-at.at c.loop-at-test.false c.loop-at.invariant.so_far

pub returns-clause-only : goal.returns-clause-only
returns-clause-only c = λ r h. only c.args.bytes.now _ r (so_far_ends c.args.bytes.now c.loop-at.tokens c.loop-at.at c.loop-at-test.false c.loop-at.invariant.so_far) h

pub returns-clause-order : goal.returns-clause-order
returns-clause-order c = order c.args.bytes.now c.loop-at.tokens (so_far_ends c.args.bytes.now c.loop-at.tokens c.loop-at.at c.loop-at-test.false c.loop-at.invariant.so_far)

pub returns-clause-texts : goal.returns-clause-texts
returns-clause-texts c = texts c.args.bytes.now c.loop-at.tokens (so_far_ends c.args.bytes.now c.loop-at.tokens c.loop-at.at c.loop-at-test.false c.loop-at.invariant.so_far)
