use Rattle.std.proofs.Common.{◌≡◌, take}
use Rattle.w_types.proofs.groups.RecGroups.copy.Given as goal

-- the groups so far
abbrev pub invariant-loop-group : goal.invariant-loop-group
invariant-loop-group l = l.groups.items ≡ take l.group-index l.group-items
