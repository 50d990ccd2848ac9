use Rattle.std.proofs.Common.{◌≡◌, ◌-◌, take, vec_len, vec_capacity}
use Rattle.w_segment.proofs.values.take_off.Given as goal

-- so many are gone
abbrev pub invariant-loop : goal.invariant-loop
invariant-loop l = record {
  items : l.items.items ≡ take (vec_len l.fn.items - l.counter) l.fn.items.items;
  capacity : vec_capacity l.items ≡ vec_capacity l.fn.items;
}
