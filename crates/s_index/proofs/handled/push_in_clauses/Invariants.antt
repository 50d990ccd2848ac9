use Rattle.std.proofs.Common.{◌≡◌, ◌++◌, drop}
use Rattle.s_index.specs.Handled.{handled_in_clauses}
use Rattle.s_index.specs.Views.{names_of}
use Rattle.s_index.proofs.handled.push_in_clauses.Given as goal

abbrev pub invariant-loop-clause : goal.invariant-loop-clause
invariant-loop-clause l = names_of l.names.items ++ handled_in_clauses (drop l.clause-index l.clauses) ≡ names_of l.fn.names.items ++ handled_in_clauses l.clauses
