use Rattle.std.proofs.Common.{◌≡◌, List, [], ℕ, ◌+◌, length, drop, ap, subst, Some, None, arith}
use Rattle.std.proofs.lemmas.List.{drop_all}
use Rattle.w_types.specs.declared.types.SubType.{SubType}
use Rattle.w_items.proofs.TypesOfGroups.{Left, IsFailing, all_left, next_left, fewer_left, within_count, position_below, not_typed, group_valid, before_valid, typed_below, none_left}
use Rattle.w_items.proofs.types.first_invalid_type.Goals as goal

pub loop-group-init : goal.loop-group-init
loop-group-init c = record { valid = λ i p lt is. absurd (omega (arith, lt)); left = all_left c.args.cx.now.candidate.now.types }

pub overflow_add-end : goal.overflow_add-end
overflow_add-end c =
    let l = next_left c.args.cx.now.candidate.now.types c.loop-group.start c.as_slice-group-items.result.now c.loop-group.group-index c.group-item.result c.as_slice-group-items.ensures c.loop-group-test.true c.group-item.is c.loop-group.invariant.left in
    omega (arith, within_count _ _ _ _ l, c.len.ensures, c.type_count-count.ensures, c.type_count-count.type_inv)

pub overflow_add-result : goal.overflow_add-result
overflow_add-result c =
    let m = c.args.cx.now.candidate.now in
    let l = next_left m.types c.loop-group.start c.as_slice-group-items.result.now c.loop-group.group-index c.group-item.result c.as_slice-group-items.ensures c.loop-group-test.true c.group-item.is c.loop-group.invariant.left in
    let found = c.in-Some.ensures in
    omega (arith, within_count _ _ _ _ l, position_below c.as_slice.result.now c.group-item.result.types c.in-Some.position found.0 c.as_slice.ensures found.1, c.type_count-count.ensures, c.type_count-count.type_inv)

pub returns-in-Some : goal.returns-in-Some
returns-in-Some c =
    let m = c.args.cx.now.candidate.now in
    let l = next_left m.types c.loop-group.start c.as_slice-group-items.result.now c.loop-group.group-index c.group-item.result c.as_slice-group-items.ensures c.loop-group-test.true c.group-item.is c.loop-group.invariant.left in
    let g = c.group-item.result in
    let failing : IsFailing m c.loop-group.start (c.loop-group.start + length g.types) g.types (Some c.in-Some.position) =
    subst (λ (ts : List SubType). IsFailing m c.loop-group.start (c.loop-group.start + length g.types) ts (Some c.in-Some.position)) c.as_slice.ensures
    (subst (λ (n : ℕ). IsFailing m c.loop-group.start (c.loop-group.start + n) c.as_slice.result.now (Some c.in-Some.position)) c.len.ensures c.in-Some.ensures) in
    let below = before_valid m c.loop-group.start c.in-Some.position g _ l c.loop-group.invariant.valid failing in (
      omega (arith, within_count _ _ _ _ l, position_below c.as_slice.result.now g.types c.in-Some.position c.in-Some.ensures.0 c.as_slice.ensures c.in-Some.ensures.1),
      not_typed m c.loop-group.start c.in-Some.position g _ l failing,
      λ j lt item. typed_below m (c.loop-group.start + c.in-Some.position) below j lt item,
    )

pub loop-group-preserved : goal.loop-group-preserved
loop-group-preserved c =
    let m = c.args.cx.now.candidate.now in
    let l = next_left m.types c.loop-group.start c.as_slice-group-items.result.now c.loop-group.group-index c.group-item.result c.as_slice-group-items.ensures c.loop-group-test.true c.group-item.is c.loop-group.invariant.left in
    let g = c.group-item.result in
    let none : c.first_in_group.result ≡ None = c.in_default.is in
    let failing : IsFailing m c.loop-group.start (c.loop-group.start + length g.types) g.types None =
    subst (λ (ts : List SubType). IsFailing m c.loop-group.start (c.loop-group.start + length g.types) ts None) c.as_slice.ensures
    (subst (λ (n : ℕ). IsFailing m c.loop-group.start (c.loop-group.start + n) c.as_slice.result.now None) c.len.ensures (rw none at c.first_in_group.ensures)) in
    record {
      valid = rw c.len.ensures (group_valid m c.loop-group.start g _ l c.loop-group.invariant.valid failing);
      left = rw c.len.ensures (fewer_left m.types c.loop-group.start g _ l);
    }

pub returns : goal.returns
returns c =
    let gs = c.args.cx.now.candidate.now.types in
    let none : drop c.loop-group.group-index gs ≡ [] = drop_all c.loop-group.group-index gs (omega (arith, ap length c.as_slice-group-items.ensures, c.loop-group-test.false)) in
    let all = none_left gs c.loop-group.start (subst (Left gs c.loop-group.start) none c.loop-group.invariant.left) in
    λ j lt. typed_below c.args.cx.now.candidate.now c.loop-group.start c.loop-group.invariant.valid j (omega (arith, lt, all)) lt
