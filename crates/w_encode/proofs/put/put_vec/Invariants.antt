use Rattle.std.proofs.Common.{◌≡◌, ◌++◌, drop}
use Rattle.std.specs.List.{flat_map}
use Rattle.w_leb.specs.CanonicalLaws.{vec_written}
use Rattle.w_encode.proofs.put.put_vec.Given as goal

-- what was written, and the items that are left, are all that is to be written
abbrev pub invariant-loop-item : goal.invariant-loop-item
invariant-loop-item g l = l.out.items ++ flat_map g.T.Put.written (drop l.item-index l.items) ≡ l.fn.out.items ++ vec_written g.T.Put.written l.items
