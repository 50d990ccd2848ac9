use Rattle.std.proofs.Common.{ℕ, ◌<◌, ◌≤◌}
use Rattle.w_rules.specs.Limits.{locals_of}
use Rattle.w_rules.proofs.limits.all_keep_locals.Given as goal

abbrev pub invariant-loop-index : goal.invariant-loop-index
invariant-loop-index l = (i : ℕ) → i < l.index → locals_of l.candidate i ≤ 50000
