use Rattle.std.proofs.Common.{◌≡◌, ◌++◌, drop}
use Rattle.std.specs.List.{flat_map}
use Rattle.w_lines.specs.Written.{code_bytes}
use Rattle.w_text.proofs.putting.put_segment_items.Given as goal

-- what was written, and what is left, are all that is to be written
abbrev pub invariant-loop-place : goal.invariant-loop-place
invariant-loop-place l = l.out.items ++ flat_map code_bytes (drop l.place l.items) ≡ l.fn.out.items ++ flat_map code_bytes l.items
