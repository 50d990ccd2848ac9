use Rattle.std.proofs.Common.{List, Result, IfOk, take, drop, ◌++◌, subst, ◌≡◌, ◌≤◌, ◌<◌, map, length, arith, ap, ◌∙◌}
use Rattle.std.specs.declared.alloc.AllocError.{AllocError}
use Rattle.w_types.specs.declared.types.RecGroup.{RecGroup}
use Rattle.w_link.specs.Shifted.{group_shifted}
use Rattle.w_resolve.proofs.InPlace.{begins, goes_on, ends_in_place}
use Rattle.w_resolve.proofs.types.resolve_groups.Goals as goal

told : (r : Result (List RecGroup) AllocError) (a b : List RecGroup) → a ≡ b → IfOk r (λ gs. gs ≡ a) → IfOk r (λ gs. gs ≡ b)
told r a b e h = let P : List RecGroup → Type 0 = λ l. IfOk r (λ gs. gs ≡ l) in subst P e h

pub loop-group-init : goal.loop-group-init
loop-group-init c = begins (group_shifted c.args.n) _

pub loop-group-preserved : goal.loop-group-preserved
loop-group-preserved c =
    let lt : c.loop-group.group-index < length c.loop-group.group-items = omega arith in
    goes_on (group_shifted c.args.n) _ _ _ c.group-item.result _ c.loop-group.invariant lt c.in_ok-resolve_group.ensures

pub returns : goal.returns
returns c =
    let le : c.loop-group.group-index ≤ length c.deref_mut-group-items.result.now = omega arith in
    let ge : length c.deref_mut-group-items.result.now ≤ c.loop-group.group-index = omega arith in
    let d = c.deref_mut-group-items.ensures in
    let all : take c.into_vec-groups.result.len (c.loop-group.group-items ++ drop (length c.loop-group.group-items) c.into_vec-groups.result.items) ≡ map (group_shifted c.args.n) c.args.groups =
    ends_in_place (group_shifted c.args.n) _ _ _ _ _ c.loop-group.invariant le ge d.len ∙ ap (map (group_shifted c.args.n)) (d.value ∙ c.into_vec-groups.ensures) in
    told c.from_vec.result _ _ all c.from_vec.ensures
