use Rattle.std.proofs.Common.{◌≡◌}
use Rattle.w_link.specs.Resolved.{clause_resolved}
use Rattle.w_resolve.proofs.InPlace.{changed}
use Rattle.w_resolve.proofs.instructions.resolve_clauses.Given as goal

abbrev pub invariant-loop-clause : goal.invariant-loop-clause
invariant-loop-clause l = l.clause-items ≡ changed (clause_resolved l.instance) l.clause-index l.initial.clause-items
