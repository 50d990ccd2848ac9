use Rattle.std.proofs.Common.{◌≡◌, ◌≤◌, length, take}
use Rattle.lists.specs.Rows.{row_of}
use Rattle.w_rows.specs.Operands.{row_in}
use Rattle.w_flow.specs.Flow.{pops}
use Rattle.w_flow.proofs.operands.left_by_each.Given as goal

-- taking all the types from all the operands is taking the first i from the first n
abbrev pub invariant-loop-i : goal.invariant-loop-i
invariant-loop-i l = record {
  types : l.i ≤ length l.wanted;
  operands : l.n ≤ length l.operands;
  same : pops l.classes l.any (row_in l.operands) (row_of l.wanted) ≡ pops l.classes l.any (row_in (take l.n l.operands)) (row_of (take l.i l.wanted));
}

abbrev pub decreases-loop-i : goal.decreases-loop-i
decreases-loop-i l = l.i
