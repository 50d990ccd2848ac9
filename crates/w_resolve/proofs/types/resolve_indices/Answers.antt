use Rattle.std.proofs.Common.{ℕ, ◌+◌, ◌≤◌, ◌<◌, map, length, arith, ap, ◌∙◌}
use Rattle.w_resolve.proofs.InPlace.{begins, goes_on, ends_in_place}
use Rattle.w_resolve.proofs.types.resolve_indices.Goals as goal

pub loop-index-init : goal.loop-index-init
loop-index-init c = begins (λ (x : ℕ). c.args.n + x) _

pub loop-index-preserved : goal.loop-index-preserved
loop-index-preserved c =
    let lt : c.loop-index.index-index < length c.loop-index.index-items = omega arith in
    goes_on (λ (x : ℕ). c.args.n + x) _ _ _ 0 _ c.loop-index.invariant lt c.in_ok-index.ensures

pub returns : goal.returns
returns c =
    let le : c.loop-index.index-index ≤ length c.deref_mut-index-items.result.now = omega arith in
    let ge : length c.deref_mut-index-items.result.now ≤ c.loop-index.index-index = omega arith in
    let d = c.deref_mut-index-items.ensures in
    c.from_vec.ensures ∙ ends_in_place (λ (x : ℕ). c.args.n + x) _ _ _ _ _ c.loop-index.invariant le ge d.len ∙ ap (map (λ (x : ℕ). c.args.n + x)) (d.value ∙ c.into_vec-items.ensures ∙ c.replace.ensures.value)
