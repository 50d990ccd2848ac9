use Rattle.std.proofs.Common.{◌≡◌, drop}
use Rattle.s_index.specs.Types.{types_for_all, with_types}
use Rattle.s_index.specs.Indices.{function_types}
use Rattle.s_index.proofs.program.function_types.Given as goal

abbrev pub invariant-loop-declaration : goal.invariant-loop-declaration
invariant-loop-declaration l = with_types l.types.items (types_for_all (drop l.declaration-index l.all)) ≡ function_types l.all
