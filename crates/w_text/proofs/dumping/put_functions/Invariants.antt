use Rattle.std.proofs.Common.{◌≡◌, ◌++◌, ◌-◌, drop, length}
use Rattle.std.specs.List.{flat_map}
use Rattle.w_text.specs.Items.{function_items}
use Rattle.w_text.specs.Written.{item_bytes}
use Rattle.w_text.proofs.dumping.put_functions.Given as goal

-- what was written, and what is left, are all that is to be written
abbrev pub invariant-loop-place : goal.invariant-loop-place
invariant-loop-place l = l.out.items ++ flat_map item_bytes (function_items (drop l.place l.kinds) (drop l.place l.codes)) ≡ l.fn.out.items ++ flat_map item_bytes (function_items l.kinds l.codes)

abbrev pub decreases-loop-place : goal.decreases-loop-place
decreases-loop-place l = length l.kinds - l.place
