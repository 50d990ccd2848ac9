use Rattle.std.proofs.Common.{◌≡◌, ◌++◌, drop, map}
use Rattle.s_check.specs.Scopes.{parameter}
use Rattle.s_check.specs.Views.{scope_of}
use Rattle.s_check.proofs.definition.push_parameters.Given as goal

abbrev pub invariant-loop-parameter : goal.invariant-loop-parameter
invariant-loop-parameter l = scope_of l.bound.items ++ map parameter (drop l.parameter-index l.parameters) ≡ scope_of l.fn.bound.items ++ map parameter l.parameters
