use Rattle.std.proofs.Common.{◌≡◌, ◌++◌, take, map, Some, vec_capacity}
use Rattle.w_types.specs.declared.value.Value.{Value}
use Rattle.w_segment.proofs.values.push_arguments.Given as goal

abbrev pub invariant-loop-value : goal.invariant-loop-value
invariant-loop-value l = record {
  items : l.locals.items ≡ l.fn.locals.items ++ map (λ (v : Value). Some v) (take l.value-index l.arguments);
  capacity : vec_capacity l.locals ≡ vec_capacity l.fn.locals;
}
