use Rattle.std.proofs.Common.{ℕ, ◌<◌}
use Rattle.w_rules.specs.Valid.{FunctionValid}
use Rattle.w_valid.specs.Measured.{AreMeasuresBelow}
use Rattle.w_valid.proofs.functions.first_invalid_function.Given as goal

-- each function so far is valid, and what its body needs is there
abbrev pub invariant-loop-index : goal.invariant-loop-index
invariant-loop-index l = record {
  typed : (j : ℕ) → j < l.index → FunctionValid l.candidate j;
  measured : AreMeasuresBelow l.candidate l.index l.bodies.heights.items l.bodies.depths.items;
}
