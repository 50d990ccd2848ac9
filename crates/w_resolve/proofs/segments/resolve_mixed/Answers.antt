use Rattle.std.proofs.Common.{◌≤◌, ◌<◌, map, length, arith, ap, ◌∙◌}
use Rattle.w_link.specs.Resolved.{code_resolved}
use Rattle.w_resolve.proofs.InPlace.{begins, goes_on, ends_in_place}
use Rattle.w_resolve.proofs.segments.resolve_mixed.Goals as goal

pub loop-item-init : goal.loop-item-init
loop-item-init c = begins (code_resolved c.args.instance.now) _

pub loop-item-preserved : goal.loop-item-preserved
loop-item-preserved c =
    let lt : c.loop-item.item-index < length c.loop-item.item-items = omega arith in
    goes_on (code_resolved c.args.instance.now) _ _ _ c.item-item.result _ c.loop-item.invariant lt
    (c.in_ok-item.ensures ∙ ap (code_resolved c.args.instance.now) c.replace-whole.ensures.value)

pub returns : goal.returns
returns c =
    let le : c.loop-item.item-index ≤ length c.deref_mut-item-items.result.now = omega arith in
    let ge : length c.deref_mut-item-items.result.now ≤ c.loop-item.item-index = omega arith in
    let d = c.deref_mut-item-items.ensures in
    c.from_vec.ensures ∙ ends_in_place (code_resolved c.args.instance.now) _ _ _ _ _ c.loop-item.invariant le ge d.len ∙ ap (map (code_resolved c.args.instance.now)) (d.value ∙ c.into_vec-items.ensures)
