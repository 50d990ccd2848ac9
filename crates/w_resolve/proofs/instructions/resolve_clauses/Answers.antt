use Rattle.std.proofs.Common.{◌≤◌, ◌<◌, map, length, arith, ap, ◌∙◌}
use Rattle.w_link.specs.Resolved.{clause_resolved}
use Rattle.w_resolve.proofs.InPlace.{begins, goes_on, ends_in_place}
use Rattle.w_resolve.proofs.instructions.resolve_clauses.Goals as goal

pub loop-clause-init : goal.loop-clause-init
loop-clause-init c = begins (clause_resolved c.args.instance.now) _

pub loop-clause-preserved : goal.loop-clause-preserved
loop-clause-preserved c =
    let lt : c.loop-clause.clause-index < length c.loop-clause.clause-items = omega arith in
    goes_on (clause_resolved c.args.instance.now) _ _ _ _ _ c.loop-clause.invariant lt c.resolve_clause.ensures

pub returns : goal.returns
returns c =
    let le : c.loop-clause.clause-index ≤ length c.deref_mut-clause-items.result.now = omega arith in
    let ge : length c.deref_mut-clause-items.result.now ≤ c.loop-clause.clause-index = omega arith in
    let d = c.deref_mut-clause-items.ensures in
    c.from_vec.ensures ∙ ends_in_place (clause_resolved c.args.instance.now) _ _ _ _ _ c.loop-clause.invariant le ge d.len ∙ ap (map (clause_resolved c.args.instance.now)) (d.value ∙ c.into_vec-items.ensures)
