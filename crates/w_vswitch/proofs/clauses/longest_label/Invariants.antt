use Rattle.std.proofs.Common.{◌≡◌, ℕ, max, drop}
use Rattle.w_rules.specs.Peak.{clause_tops}
use Rattle.w_vplain.specs.Row.{above}
use Rattle.w_vswitch.specs.Places.{AtEnds}
use Rattle.w_vswitch.proofs.clauses.longest_label.Given as goal

-- the longest label is that so far, or one of those left
abbrev pub invariant-loop-clause : goal.invariant-loop-clause
invariant-loop-clause l = AtEnds l.checker (λ c. (h : ℕ) → clause_tops c.labels h l.clauses ≡ max (above 0 l.longest h) (clause_tops c.labels h (drop l.clause-index l.clauses)))
