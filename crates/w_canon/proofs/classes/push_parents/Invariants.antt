use Rattle.std.proofs.Common.{◌≡◌, ◌+◌, ◌≤◌, ◌++◌, drop, length}
use Rattle.w_canon.specs.Parents.{parents_from}
use Rattle.w_canon.proofs.classes.push_parents.Given as goal

-- what stands above the types so far, with that of the types that are left, is all
abbrev pub invariant-loop-kind : goal.invariant-loop-kind
invariant-loop-kind l =
    ((l.parents.items ++ parents_from l.entries (length l.parents.items) (drop l.kind-index l.group.types) ≡ l.fn.parents.items ++ parents_from l.entries (length l.fn.parents.items) l.group.types)
    × (l.kind-items ≡ l.group.types)) × (length l.parents.items + length (drop l.kind-index l.group.types) ≤ length l.entries)
