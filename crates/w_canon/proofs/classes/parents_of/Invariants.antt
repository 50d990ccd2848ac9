use Rattle.std.proofs.Common.{◌≡◌, take}
use Rattle.w_types.specs.Groups.{subtypes_of}
use Rattle.w_canon.specs.Parents.{parents_from}
use Rattle.w_canon.proofs.classes.parents_of.Given as goal

abbrev pub invariant-loop-group : goal.invariant-loop-group
invariant-loop-group l = l.parents.items ≡ parents_from l.entries 0 (subtypes_of (take l.group-index l.groups))
