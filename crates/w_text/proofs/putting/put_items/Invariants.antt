use Rattle.std.proofs.Common.{◌≡◌, ◌++◌, drop, map}
use Rattle.std.specs.List.{flat_map}
use Rattle.w_text.specs.Written.{item_bytes}
use Rattle.w_text.proofs.putting.put_items.Given as goal

-- what was written, and what is left, are all that is to be written
abbrev pub invariant-loop-item : goal.invariant-loop-item
invariant-loop-item g l = l.out.items ++ flat_map item_bytes (map g.T.PutItem.item (drop l.item-index l.items)) ≡ l.fn.out.items ++ flat_map item_bytes (map g.T.PutItem.item l.items)
