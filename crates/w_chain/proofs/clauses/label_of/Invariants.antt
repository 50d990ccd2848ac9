use Rattle.std.proofs.Common.{◌≡◌, drop}
use Rattle.w_reduce.specs.Handlers.{label_clause}
use Rattle.w_chain.proofs.clauses.label_of.Given as goal

abbrev pub invariant-loop-clause : goal.invariant-loop-clause
invariant-loop-clause l = label_clause l.tag l.clauses ≡ label_clause l.tag (drop l.clause-index l.clauses)
