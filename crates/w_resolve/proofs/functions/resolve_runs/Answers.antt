use Rattle.std.proofs.Common.{◌≤◌, ◌<◌, map, length, arith, ap, ◌∙◌}
use Rattle.w_link.specs.Resolved.{run_shifted}
use Rattle.w_resolve.proofs.InPlace.{begins, goes_on, ends_in_place}
use Rattle.w_resolve.proofs.functions.resolve_runs.Goals as goal

pub loop-run-init : goal.loop-run-init
loop-run-init c = begins (run_shifted c.args.n) _

pub loop-run-preserved : goal.loop-run-preserved
loop-run-preserved c =
    let lt : c.loop-run.run-index < length c.loop-run.run-items = omega arith in
    goes_on (run_shifted c.args.n) _ _ _ c.run-item.result _ c.loop-run.invariant lt c.in_ok-run.ensures

pub returns : goal.returns
returns c =
    let le : c.loop-run.run-index ≤ length c.deref_mut-run-items.result.now = omega arith in
    let ge : length c.deref_mut-run-items.result.now ≤ c.loop-run.run-index = omega arith in
    let d = c.deref_mut-run-items.ensures in
    ends_in_place (run_shifted c.args.n) _ _ _ _ _ c.loop-run.invariant le ge d.len ∙ ap (map (run_shifted c.args.n)) d.value
