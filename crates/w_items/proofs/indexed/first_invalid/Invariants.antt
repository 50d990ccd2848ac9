use Rattle.std.proofs.Common.{ℕ, ◌<◌}
use Rattle.w_rules.specs.Valid.{ItemValid}
use Rattle.w_items.specs.Kinds.{item_of}
use Rattle.w_items.proofs.indexed.first_invalid.Given as goal

-- each item so far is valid
abbrev pub invariant-loop-index : goal.invariant-loop-index
invariant-loop-index l = (j : ℕ) → j < l.index → ItemValid l.cx.candidate.now (item_of l.kind j)
