use Rattle.std.proofs.Common.{◌≡◌, ◌++◌, drop}
use Rattle.s_index.specs.Types.{val_types}
use Rattle.s_index.proofs.types.val_types.Given as goal

abbrev pub invariant-loop-parameter : goal.invariant-loop-parameter
invariant-loop-parameter l = l.types.items ++ val_types (drop l.parameter-index l.parameters) ≡ val_types l.parameters
