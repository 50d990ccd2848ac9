use Rattle.std.proofs.Common.{below_more, arith}
use Rattle.w_rules.specs.Valid.{ItemValid}
use Rattle.w_items.specs.Kinds.{item_of}
use Rattle.w_items.proofs.Items.{is_counted, counts}
use Rattle.w_items.proofs.indexed.first_invalid.Goals as goal

pub returns-then-not-branch : goal.returns-then-not-branch
returns-then-not-branch c =
    let m = c.args.cx.now.candidate.now in (
      is_counted m c.args.kind c.loop-index.index (omega (arith, c.loop-index-test.true, c.count-index-end.ensures)),
      λ t. let e = c.in_ok-is_valid.ensures.1 t in absurd (cc),
      λ j lt item. c.loop-index.invariant j lt,
    )

pub loop-index-preserved : goal.loop-index-preserved
loop-index-preserved c =
    below_more (λ j. ItemValid c.args.cx.now.candidate.now (item_of c.args.kind j)) c.loop-index.index c.loop-index.invariant (c.in_ok-is_valid.ensures.0 c.if-not-branch.false)

pub returns : goal.returns
returns c = λ j item. c.loop-index.invariant j (omega (arith, c.loop-index-test.false, c.count-index-end.ensures, counts c.args.cx.now.candidate.now c.args.kind j item))
