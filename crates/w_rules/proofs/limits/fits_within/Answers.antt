use Rattle.std.proofs.Common.{arith, ap, refl}
use Rattle.std.proofs.lemmas.List.{drop_all}
use Rattle.w_syntax.specs.declared.locals.LocalRun.{LocalRun}
use Rattle.w_syntax.specs.Locals.{total}
use Rattle.w_syntax.proofs.Totals.{total_none, total_more}
use Rattle.w_rules.proofs.limits.fits_within.Goals as goal

pub returns-then-count-left : goal.returns-then-count-left
returns-then-count-left c =
    let e = total_more c.args.runs.now c.loop-run.run-index c.run-item.result c.loop-run-test.true in
    let f = ap (λ (r : LocalRun). r.count) c.run-item.is in
    (λ no. absurd (cc), λ le. absurd (omega arith))

pub loop-run-preserved : goal.loop-run-preserved
loop-run-preserved c =
    let e = total_more c.args.runs.now c.loop-run.run-index c.run-item.result c.loop-run-test.true in
    let f = ap (λ (r : LocalRun). r.count) c.run-item.is in
    omega arith

pub returns : goal.returns
returns c =
    let e = ap total (drop_all c.loop-run.run-index c.args.runs.now c.loop-run-test.false) in
    let n = total_none in
    (λ _. omega arith, λ _. refl)
