use Rattle.std.proofs.Common.{◌≡◌, ◌++◌, drop}
use Rattle.std.specs.List.{flat_map}
use Rattle.w_leb.specs.CanonicalLaws.{vec_written}
use Rattle.w_encode.specs.FieldsWritten.{function_written}
use Rattle.w_encode.proofs.segments.put_functions.Given as goal

-- what was written, and the items that are left, are all that is to be written
abbrev pub invariant-loop-place : goal.invariant-loop-place
invariant-loop-place l = l.out.items ++ flat_map function_written (drop l.place l.items) ≡ l.fn.out.items ++ vec_written function_written l.items
