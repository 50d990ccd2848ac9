use Rattle.std.proofs.Common.{drop, length, sym, ap, ◌∙◌, arith, Some}
use Rattle.w_syntax.specs.Code.{Code, Done, Plain, after}
use Rattle.w_syntax.specs.declared.instructions.Token.TheVariants as tok
use Rattle.w_syntax.specs.Expr.{Top, step}
use Rattle.w_syntax.specs.ExprLaws.{one_on, none_on, onward}
use Rattle.w_code.proofs.TokenSteps.{to_more, to_finished, to_wrong, reads_start, moves, past}
use Rattle.w_code.proofs.bodies.body_at.Goals as goal

pub loop-place-init : goal.loop-place-init
loop-place-init c = (Top, Done, record { stands = c.in_ok-builder.ensures; reads = reads_start _; after = omega arith })

pub returns-in_default-2 : goal.returns-in_default-2
returns-in_default-2 c =
    let i = c.loop-place.invariant in
    let h = rw c.in_default-2.is at c.in_ok-token.ensures.reads in
    sym i.2.reads ∙ none_on _ i.0 i.1 _ h

pub loop-place-smaller : goal.loop-place-smaller
loop-place-smaller c =
    let h = rw c.in-Some-2.is at c.in_ok-token.ensures.reads in
    let m = moves c.args.bytes.now c.loop-place.place c.in-Some-2.next c.in-Some-2.token h.0 h.2 in
    omega (arith, m, h.2, c.loop-place-test.true)

pub loop-place-smaller-in-Some : goal.loop-place-smaller-in-Some
loop-place-smaller-in-Some c =
    let h = c.in-Some.ensures in
    let m = moves c.args.bytes.now c.loop-place.place c.in-Some.next (tok.Plain h.0) h.2.0 h.2.2 in
    omega (arith, m, h.2.2, c.loop-place-test.true)

pub loop-place-preserved-in-Some : goal.loop-place-preserved-in-Some
unfolding step
loop-place-preserved-in-Some c =
    let i = c.loop-place.invariant in
    let h = c.in-Some.ensures in
    let e = one_on i.0 i.1 (drop c.loop-place.place c.args.bytes.now) (tok.Plain h.0) (drop c.in-Some.next c.args.bytes.now) h.2.0 in (
      i.0,
      after i.1 (Plain h.0 Done),
      record { stands = c.in_ok-push_plain.ensures i.0 i.1 h.0 i.2.stands h.1; reads = sym e ∙ i.2.reads; after = omega (arith, h.2.1, i.2.after) },
    )

pub push-requires : goal.push-requires
push-requires c = let i = c.loop-place.invariant in (i.0, i.1, i.2.stands)

pub loop-place-preserved : goal.loop-place-preserved
loop-place-preserved c =
    let i = c.loop-place.invariant in
    let h = rw c.in-Some-2.is at c.in_ok-token.ensures.reads in
    let s = rw c.in-More.is at (c.in_ok-push.ensures i.0 i.1 i.2.stands) in
    let m = to_more (step i.0 i.1 c.in-Some-2.token) c.push.new.self s in
    let e = one_on i.0 i.1 (drop c.loop-place.place c.args.bytes.now) c.in-Some-2.token (drop c.in-Some-2.next c.args.bytes.now) h.0 in (
      m.0,
      m.1,
      record {
        stands = m.3;
        reads = ap (λ (o : _). onward (length (drop c.in-Some-2.next c.args.bytes.now)) o (drop c.in-Some-2.next c.args.bytes.now)) (sym m.2) ∙ sym e ∙ i.2.reads;
        after = omega (arith, h.1, i.2.after);
      },
    )

pub into_body-requires : goal.into_body-requires
into_body-requires c =
    let i = c.loop-place.invariant in
    let s = rw c.in-Finished.is at (c.in_ok-push.ensures i.0 i.1 i.2.stands) in
    let m = to_finished (step i.0 i.1 c.in-Some-2.token) c.push.new.self s in
    (m.0, m.2)

pub returns-in-Finished : goal.returns-in-Finished
returns-in-Finished c =
    let i = c.loop-place.invariant in
    let h = rw c.in-Some-2.is at c.in_ok-token.ensures.reads in
    let s = rw c.in-Finished.is at (c.in_ok-push.ensures i.0 i.1 i.2.stands) in
    let m = to_finished (step i.0 i.1 c.in-Some-2.token) c.push.new.self s in
    let e = one_on i.0 i.1 (drop c.loop-place.place c.args.bytes.now) c.in-Some-2.token (drop c.in-Some-2.next c.args.bytes.now) h.0 in
    let body = c.in_ok-into_body-in-Finished.ensures m.0 m.2 in
    (sym i.2.reads ∙ e ∙ ap (λ (o : _). onward (length (drop c.in-Some-2.next c.args.bytes.now)) o (drop c.in-Some-2.next c.args.bytes.now)) m.1 ∙ ap (λ (d : Code). Some (d, drop c.in-Some-2.next c.args.bytes.now)) (sym body), omega (arith, h.1, i.2.after), h.2)

pub returns-in-Wrong : goal.returns-in-Wrong
returns-in-Wrong c =
    let i = c.loop-place.invariant in
    let h = rw c.in-Some-2.is at c.in_ok-token.ensures.reads in
    let s = rw c.in-Wrong.is at (c.in_ok-push.ensures i.0 i.1 i.2.stands) in
    let m = to_wrong (step i.0 i.1 c.in-Some-2.token) c.push.new.self s in
    let e = one_on i.0 i.1 (drop c.loop-place.place c.args.bytes.now) c.in-Some-2.token (drop c.in-Some-2.next c.args.bytes.now) h.0 in
    sym i.2.reads ∙ e ∙ ap (λ (o : _). onward (length (drop c.in-Some-2.next c.args.bytes.now)) o (drop c.in-Some-2.next c.args.bytes.now)) m

pub returns : goal.returns
returns c = let i = c.loop-place.invariant in sym i.2.reads ∙ past _ c.loop-place.place i.0 i.1 c.args.bytes.now c.loop-place-test.false
