use Rattle.std.proofs.Common.{◌≡◌, take}
use Rattle.w_types.proofs.groups.copy_group.Given as goal

-- the types so far
abbrev pub invariant-loop-kind : goal.invariant-loop-kind
invariant-loop-kind l = l.types ≡ take l.kind-index l.kind-items
