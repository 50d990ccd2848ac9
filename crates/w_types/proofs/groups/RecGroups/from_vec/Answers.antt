use Rattle.std.proofs.Common.{rules, ◌≡◌, length, ap, ◌++◌}
use Rattle.w_types.specs.Groups.{places_in, places_of}
use Rattle.w_types.proofs.PlacesOfTypes.{next_group, all_groups}
use Rattle.w_types.proofs.groups.RecGroups.from_vec.Goals as goal

pub loop-number-init : goal.loop-number-init
loop-number-init c = (ap (λ l. l ++ places_of 0 c.args.groups.items) c.new-places.ensures.items, c.deref-group-items.ensures.value)

pub loop-number-preserved : goal.loop-number-preserved
loop-number-preserved c =
    let n = next_group c.args.groups.items c.deref-group-items.result.now c.loop-number.number c.group-item.result c.loop-number.places.items (places_of 0 c.args.groups.items) c.loop-number.invariant.1 c.group-item.is c.loop-number-test.true c.loop-number.invariant.0 in
    let m : c.push_places.new.places.items ≡ c.loop-number.places.items ++ places_in c.loop-number.number 0 (length c.group-item.result.types) = search rules in
    (rw m n, c.loop-number.invariant.1)

pub invariant_of-result : goal.invariant_of-result
invariant_of-result c = all_groups c.args.groups.items c.deref-group-items.result.now c.loop-number.number c.loop-number.places.items (places_of 0 c.args.groups.items) c.loop-number.invariant.1 c.loop-number-test.false c.loop-number.invariant.0
