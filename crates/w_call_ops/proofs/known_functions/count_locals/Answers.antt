use Rattle.std.proofs.Common.{arith}
use Rattle.w_call_ops.proofs.Runs.{total_none, total_more, total_within}
use Rattle.w_call_ops.proofs.known_functions.count_locals.Goals as goal

pub loop-run-init : goal.loop-run-init
loop-run-init c = total_none

pub overflow_add-count : goal.overflow_add-count
overflow_add-count c =
    let w = total_within c.args.runs.now c.loop-run.run-index c.run-item.result c.loop-run-test.true c.run-item.is in
    let i = c.loop-run.invariant in
    omega (arith, w, i, c.requires)

pub loop-run-preserved : goal.loop-run-preserved
loop-run-preserved c =
    let w = total_more c.args.runs.now c.loop-run.run-index c.run-item.result c.loop-run-test.true c.run-item.is in
    let i = c.loop-run.invariant in
    omega (arith, w, i)
