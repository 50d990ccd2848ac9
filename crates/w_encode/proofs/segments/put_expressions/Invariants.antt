use Rattle.std.proofs.Common.{◌≡◌, ◌++◌, drop}
use Rattle.std.specs.List.{flat_map}
use Rattle.w_leb.specs.CanonicalLaws.{vec_written}
use Rattle.w_encode.specs.InstructionsWritten.{expr_written}
use Rattle.w_encode.proofs.segments.put_expressions.Given as goal

-- what was written, and the items that are left, are all that is to be written
abbrev pub invariant-loop-place : goal.invariant-loop-place
invariant-loop-place l = l.out.items ++ flat_map expr_written (drop l.place l.items) ≡ l.fn.out.items ++ vec_written expr_written l.items
