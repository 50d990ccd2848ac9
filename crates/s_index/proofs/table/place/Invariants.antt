use Rattle.std.proofs.Common.{◌≡◌, ◌+◌, drop}
use Rattle.s_index.specs.Types.{place}
use Rattle.s_index.proofs.table.place.Given as goal

abbrev pub invariant-loop-index : goal.invariant-loop-index
invariant-loop-index l = l.index + place l.wanted (drop l.index l.types) ≡ place l.wanted l.types
