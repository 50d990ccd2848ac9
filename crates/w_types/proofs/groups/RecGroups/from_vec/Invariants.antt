use Rattle.std.proofs.Common.{drop, ◌≡◌, ◌++◌}
use Rattle.w_types.specs.Groups.{places_of}
use Rattle.w_types.proofs.groups.RecGroups.from_vec.Given as goal

abbrev pub invariant-loop-number : goal.invariant-loop-number
invariant-loop-number l = (l.places.items ++ places_of l.number (drop l.number l.fn.groups.items) ≡ places_of 0 l.fn.groups.items) × (l.group-items ≡ l.fn.groups.items)
