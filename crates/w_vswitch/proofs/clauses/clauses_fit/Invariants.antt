use Rattle.std.proofs.Common.{take}
use Rattle.std.specs.Prelude.{All}
use Rattle.w_rules.specs.Conditions.{ClauseTyped}
use Rattle.w_vswitch.specs.Places.{AtEnds}
use Rattle.w_vswitch.proofs.clauses.clauses_fit.Given as goal

-- the clauses before this one are typed
abbrev pub invariant-loop-index : goal.invariant-loop-index
invariant-loop-index l = AtEnds l.checker (λ c. All (ClauseTyped c l.results.types.now) (take l.index l.clauses))
