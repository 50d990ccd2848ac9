use Rattle.std.proofs.Common.{◌≡◌, ◌<◌, ℕ, Some, slice_get}
use Rattle.w_lines.specs.Instructions.{rows}
use Rattle.w_lines.specs.NameTable.{names_of}
use Rattle.w_lines.proofs.names.place_of.Given as goal

-- no name before is this one
abbrev pub invariant-loop-place : goal.invariant-loop-place
invariant-loop-place l = (k : ℕ) → k < l.place → slice_get (names_of rows) k ≡ Some l.name → ⊥
