use Rattle.std.proofs.Common.{◌≡◌}
use Rattle.s_index.specs.Types.{with_types}
use Rattle.s_index.proofs.program.add_types.Given as goal

abbrev pub invariant-loop-ty : goal.invariant-loop-ty
invariant-loop-ty l = l.types.items ≡ with_types l.fn.types.items l.yielded
