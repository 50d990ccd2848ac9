use Rattle.std.proofs.Common.{◌≡◌, drop}
use Rattle.s_check.specs.Least.{least_of}
use Rattle.s_check.specs.Rules.{in_types, in_parameters}
use Rattle.s_check.proofs.definition.in_parameters.Given as goal

abbrev pub invariant-loop-parameter : goal.invariant-loop-parameter
invariant-loop-parameter l = least_of l.least (in_types l.declarations (drop l.parameter-index l.parameters)) ≡ least_of l.fn.least (in_parameters l.declarations l.parameters)
