use Rattle.std.proofs.Common.{◌≡◌, ◌++◌, drop}
use Rattle.s_code.specs.Places.{clauses_names}
use Rattle.s_lower.specs.Views.{bounds_of}
use Rattle.s_lower.proofs.names.push_clauses_names.Given as goal

abbrev pub invariant-loop-clause : goal.invariant-loop-clause
invariant-loop-clause l = bounds_of l.names.items ++ clauses_names l.program l.handler (drop l.clause-index l.clauses) ≡ bounds_of l.fn.names.items ++ clauses_names l.program l.handler l.clauses
