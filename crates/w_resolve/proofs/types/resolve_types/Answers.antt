use Rattle.std.proofs.Common.{◌≤◌, ◌<◌, map, length, arith, ap, ◌∙◌}
use Rattle.w_link.specs.Shifted.{type_shifted}
use Rattle.w_resolve.proofs.InPlace.{begins, goes_on, ends_in_place}
use Rattle.w_resolve.proofs.types.resolve_types.Goals as goal

pub loop-kind-init : goal.loop-kind-init
loop-kind-init c = begins (type_shifted c.args.n) _

pub loop-kind-preserved : goal.loop-kind-preserved
loop-kind-preserved c =
    let lt : c.loop-kind.kind-index < length c.loop-kind.kind-items = omega arith in
    goes_on (type_shifted c.args.n) _ _ _ c.kind-item.result _ c.loop-kind.invariant lt c.in_ok-kind.ensures

pub returns : goal.returns
returns c =
    let le : c.loop-kind.kind-index ≤ length c.deref_mut-kind-items.result.now = omega arith in
    let ge : length c.deref_mut-kind-items.result.now ≤ c.loop-kind.kind-index = omega arith in
    let d = c.deref_mut-kind-items.ensures in
    c.from_vec.ensures ∙ ends_in_place (type_shifted c.args.n) _ _ _ _ _ c.loop-kind.invariant le ge d.len ∙ ap (map (type_shifted c.args.n)) (d.value ∙ c.into_vec-items.ensures ∙ c.replace.ensures.value)
