use Rattle.std.proofs.Common.{◌≡◌, drop}
use Rattle.std.specs.Prelude.{sum_by}
use Rattle.s_check.specs.Size.{clause_size}
use Rattle.s_size.specs.Left.{left_after}
use Rattle.s_size.proofs.script.after_clauses.Given as goal

abbrev pub invariant-loop-clause : goal.invariant-loop-clause
invariant-loop-clause l = left_after (sum_by clause_size (drop l.clause-index l.clauses)) l.left ≡ left_after (sum_by clause_size l.clauses) l.fn.budget
