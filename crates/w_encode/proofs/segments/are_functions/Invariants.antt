use Rattle.std.proofs.Common.{◌≡◌, drop}
use Rattle.w_encode.specs.FieldsWritten.{are_functions}
use Rattle.w_encode.proofs.segments.are_functions.Given as goal

-- all items are functions where those that are left are
abbrev pub invariant-loop-place : goal.invariant-loop-place
invariant-loop-place l = are_functions (drop l.place l.items) ≡ are_functions l.items
