use Rattle.std.proofs.Common.{◌≡◌, ◌≤◌, drop}
use Rattle.std.specs.Prelude.{max, sum_by}
use Rattle.s_check.specs.Size.{clause_size, size_limit}
use Rattle.s_code.specs.Places.{high_clauses}
use Rattle.s_lower.proofs.code.high_clauses.Given as goal

abbrev pub invariant-loop-clause : goal.invariant-loop-clause
invariant-loop-clause l = record {
  most : max l.most (high_clauses (drop l.clause-index l.clauses)) ≡ high_clauses l.clauses;
  room : sum_by clause_size (drop l.clause-index l.clauses) ≤ size_limit;
}
