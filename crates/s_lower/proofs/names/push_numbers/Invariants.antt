use Rattle.std.proofs.Common.{◌≡◌, ◌++◌, drop, map}
use Rattle.s_check.specs.Scopes.{number}
use Rattle.s_lower.specs.Views.{bounds_of}
use Rattle.s_lower.proofs.names.push_numbers.Given as goal

abbrev pub invariant-loop-name : goal.invariant-loop-name
invariant-loop-name l = bounds_of l.names.items ++ map number (drop l.name-index l.all) ≡ bounds_of l.fn.names.items ++ map number l.all
