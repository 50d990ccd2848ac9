use Rattle.std.proofs.Common.{◌≡◌}
use Rattle.s_index.specs.Types.{numbers}
use Rattle.s_index.proofs.types.numbers.Given as goal

abbrev pub invariant-loop-index : goal.invariant-loop-index
invariant-loop-index l = l.types.items ≡ numbers l.index
