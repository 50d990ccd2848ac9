use Rattle.std.proofs.Common.{◌≡◌, ◌++◌, vec_capacity}
use Rattle.std.specs.Prelude.{replicate}
use Rattle.w_segment.proofs.values.push_copies.Given as goal

abbrev pub invariant-loop : goal.invariant-loop
invariant-loop l = record {
  items : l.locals.items ≡ l.fn.locals.items ++ replicate l.counter l.local;
  capacity : vec_capacity l.locals ≡ vec_capacity l.fn.locals;
}
