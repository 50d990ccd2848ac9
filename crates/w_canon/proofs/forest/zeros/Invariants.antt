use Rattle.std.proofs.Common.{◌≡◌, replicate}
use Rattle.w_canon.proofs.forest.zeros.Given as goal

abbrev pub invariant-loop-index : goal.invariant-loop-index
invariant-loop-index l = l.list.items ≡ replicate l._index 0
