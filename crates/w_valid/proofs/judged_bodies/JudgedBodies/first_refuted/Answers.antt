use Rattle.std.proofs.Common.{List, length, sym, ap, subst, arith}
use Rattle.w_valid.specs.declared.judged_bodies.Doubt.{Doubt}
use Rattle.w_valid.proofs.BodiesJudged.{RefutedSoFar, none_so_far, looked_at, all_before}
use Rattle.w_valid.proofs.judged_bodies.JudgedBodies.first_refuted.Goals as goal

pub loop-doubt-init : goal.loop-doubt-init
loop-doubt-init c = record {
  within = omega (arith, c.len-count.ensures);
  refuted = λ m datas judged. subst (RefutedSoFar m c.args.self.now 0) (sym c.len-count.ensures) (none_so_far c.args.self.now judged);
}

pub loop-doubt-preserved : goal.loop-doubt-preserved
loop-doubt-preserved c = record {
  within = omega (arith, c.loop-doubt.invariant.within, c.first_of-first.ensures.least);
  refuted = λ m datas judged.
      looked_at c.args.self.now c.deref-doubt-items.result.now c.loop-doubt.doubt-index c.loop-doubt.first c.first_of-first.result _ c.deref-doubt-items.ensures.value c.loop-doubt-test.true
      (c.first_of-first.ensures.one m datas) judged (c.loop-doubt.invariant.refuted m datas judged);
}

pub returns : goal.returns
returns c = λ m datas judged.
    let b = c.args.self.now in
    let before = all_before b c.loop-doubt.doubt-index c.loop-doubt.first (omega (arith, c.loop-doubt-test.false, ap (λ (ds : List Doubt). length ds) c.deref-doubt-items.ensures.value)) (c.loop-doubt.invariant.refuted m datas judged) in
    λ j lt. before j (omega (arith, lt, c.if-first-count.false, c.len-count.ensures))

pub returns-then-first-count : goal.returns-then-first-count
returns-then-first-count c = λ m datas judged.
    let b = c.args.self.now in
    let so_far = c.loop-doubt.invariant.refuted m datas judged in
    (omega (arith, c.if-first-count.true, c.len-count.ensures), so_far.refuted (omega (arith, c.if-first-count.true, c.len-count.ensures)), all_before b c.loop-doubt.doubt-index c.loop-doubt.first (omega (arith, c.loop-doubt-test.false, ap (λ (ds : List Doubt). length ds) c.deref-doubt-items.ensures.value)) so_far)
