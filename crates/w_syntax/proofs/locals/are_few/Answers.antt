use Rattle.std.proofs.Common.{arith, ap, refl}
use Rattle.w_syntax.proofs.Totals.{total_more, total_past}
use Rattle.w_syntax.specs.declared.locals.LocalRun.{LocalRun}
use Rattle.w_syntax.proofs.locals.are_few.Goals as goal

pub returns-then-run-left : goal.returns-then-run-left
returns-then-run-left c =
    let m = total_more c.args.runs.now c.loop-run.run-index c.run-item.result (omega arith) in
    let e = ap (λ (r : LocalRun). r.count) c.run-item.is in
    ((λ no. absurd cc), λ lt. absurd (omega (arith, m, e, c.loop-run.invariant, c.if-run-left.true)))

pub loop-run-preserved : goal.loop-run-preserved
loop-run-preserved c =
    let m = total_more c.args.runs.now c.loop-run.run-index c.run-item.result (omega arith) in
    let e = ap (λ (r : LocalRun). r.count) c.run-item.is in
    omega (arith, m, e, c.loop-run.invariant, c.if-run-left.false)

pub returns : goal.returns
returns c =
    let m = total_past c.args.runs.now c.loop-run.run-index c.loop-run-test.false in
    ((λ e. omega (arith, m, c.loop-run.invariant)), λ lt. refl)
