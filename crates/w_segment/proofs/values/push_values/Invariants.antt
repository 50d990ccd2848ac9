use Rattle.std.proofs.Common.{◌≡◌, ◌++◌, take, vec_capacity}
use Rattle.w_segment.proofs.values.push_values.Given as goal

abbrev pub invariant-loop-value : goal.invariant-loop-value
invariant-loop-value l = record {
  items : l.operands.items ≡ l.fn.operands.items ++ take l.value-index l.values;
  capacity : vec_capacity l.operands ≡ vec_capacity l.fn.operands;
}
