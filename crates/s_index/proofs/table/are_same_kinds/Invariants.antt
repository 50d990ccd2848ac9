use Rattle.std.proofs.Common.{◌≡◌, drop}
use Rattle.s_index.specs.Types.{same_kinds}
use Rattle.s_index.proofs.table.are_same_kinds.Given as goal

abbrev pub invariant-loop-index : goal.invariant-loop-index
invariant-loop-index l = same_kinds (drop l.index l.these) (drop l.index l.those) ≡ same_kinds l.these l.those
