use Rattle.std.proofs.Common.{◌≡◌, drop}
use Rattle.w_reduce.specs.Handlers.{has_switch}
use Rattle.w_chain.proofs.clauses.has_switch.Given as goal

abbrev pub invariant-loop-clause : goal.invariant-loop-clause
invariant-loop-clause l = has_switch l.tag l.clauses ≡ has_switch l.tag (drop l.clause-index l.clauses)
