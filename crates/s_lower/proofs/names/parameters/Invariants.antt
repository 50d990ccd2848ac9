use Rattle.std.proofs.Common.{◌≡◌, ◌++◌, drop, map}
use Rattle.s_check.specs.Scopes.{parameter}
use Rattle.s_lower.specs.Views.{bounds_of}
use Rattle.s_lower.proofs.names.parameters.Given as goal

abbrev pub invariant-loop-parameter : goal.invariant-loop-parameter
invariant-loop-parameter l = bounds_of l.names.items ++ map parameter (drop l.parameter-index l.all) ≡ map parameter l.all
