use Rattle.std.proofs.Common.{◌≡◌, ◌++◌, ◌-◌}
use Rattle.w_types.specs.Groups.{places_in}
use Rattle.w_types.proofs.groups.push_places.Given as goal

abbrev pub invariant-loop-position : goal.invariant-loop-position
invariant-loop-position l = (l.places.items ++ places_in l.group l.position (l.count - l.position) ≡ l.fn.places.items ++ places_in l.group 0 l.count) × (l.group ≡ l.fn.group) × (l.count ≡ l.fn.count)
