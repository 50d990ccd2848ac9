use Rattle.std.proofs.Common.{◌≡◌, ◌++◌, drop}
use Rattle.w_canon.specs.Entries.{entries_from}
use Rattle.w_canon.proofs.classes.push_entries.Given as goal

-- the entries so far, with those of the types that are left, are all
abbrev pub invariant-loop-position : goal.invariant-loop-position
invariant-loop-position l = (l.entries.items ++ entries_from l.first l.position (drop l.position l.group.types) ≡ l.fn.entries.items ++ entries_from l.first 0 l.group.types) × (l.kind-items ≡ l.group.types)
