use Rattle.std.proofs.Common.{◌≡◌, ◌+◌, ◌<◌, ◌≤◌, ℕ, get_or, vec_len, vec_capacity}
use Rattle.w_types.specs.declared.value.Value.{Value}
use Rattle.w_segment.proofs.values.keep_top.Given as goal

abbrev pub invariant-loop-i : goal.invariant-loop-i
invariant-loop-i l = record {
  long : vec_len l.items ≡ vec_len l.fn.items;
  capacity : vec_capacity l.items ≡ vec_capacity l.fn.items;
  low : (k : ℕ) (d : Value) → k < l.base → get_or l.items.items k d ≡ get_or l.fn.items.items k d;
  moved : (k : ℕ) (d : Value) → k < l.i → get_or l.items.items (l.base + k) d ≡ get_or l.fn.items.items (l.from + k) d;
  high : (k : ℕ) (d : Value) → l.base + l.i ≤ k → get_or l.items.items k d ≡ get_or l.fn.items.items k d;
}
