use Rattle.std.proofs.Common.{◌≡◌, ◌++◌, drop, map}
use Rattle.s_check.specs.Scopes.{number}
use Rattle.s_check.specs.Views.{scope_of}
use Rattle.s_check.proofs.definition.push_numbers.Given as goal

abbrev pub invariant-loop-name : goal.invariant-loop-name
invariant-loop-name l = scope_of l.bound.items ++ map number (drop l.name-index l.names) ≡ scope_of l.fn.bound.items ++ map number l.names
