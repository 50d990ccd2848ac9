use Rattle.std.proofs.Common.{◌≡◌, drop}
use Rattle.s_index.specs.Types.{clause_types, with_types}
use Rattle.s_index.proofs.program.add_clause_types.Given as goal

abbrev pub invariant-loop-clause : goal.invariant-loop-clause
invariant-loop-clause l = with_types l.types.items (clause_types (drop l.clause-index l.clauses)) ≡ with_types l.fn.types.items (clause_types l.clauses)
