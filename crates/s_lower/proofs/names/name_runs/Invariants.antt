use Rattle.std.proofs.Common.{◌≡◌, ◌++◌, drop}
use Rattle.s_code.specs.Places.{name_runs}
use Rattle.s_lower.specs.Views.{bounds_of}
use Rattle.s_lower.proofs.names.name_runs.Given as goal

abbrev pub invariant-loop-binding : goal.invariant-loop-binding
invariant-loop-binding l = l.runs.items ++ name_runs (bounds_of (drop l.binding-index l.names)) ≡ name_runs (bounds_of l.names)
