-- Reference instructions (Core, execution, reference instructions).
use Rattle.std.specs.Prelude.{slice_get}
use Rattle.lists.specs.Rows.{Row, ◌▹◌}
use Rattle.w_syntax.specs.Code.{Code}
use Rattle.w_syntax.specs.declared.instructions.ReferenceOp.{ReferenceOp}
use Rattle.w_syntax.specs.declared.instructions.ReferenceOp.TheVariants as reference
use Rattle.w_reduce.specs.declared.trap.Trap.TheVariants as trap
use Rattle.w_reduce.specs.Values.{Val, I32, I64, Null, Func, Cont}
use Rattle.w_reduce.specs.Store.{Store}
use Rattle.w_reduce.specs.Terms.{rest_of, Context}
use Rattle.w_reduce.specs.Reduced.{Reduced, Trapped, Stuck, steps_to, ◌>>=◌, or_stuck, take_value}

-- which of two a reference leads to: the first where it is null
abbrev pub by_null : Val → Reduced → Reduced → Reduced
by_null Null null other = null
by_null (Func a) null other = other
by_null (Cont a) null other = other
by_null (I32 n) null other = Stuck
by_null (I64 n) null other = Stuck

abbrev pub reference_op : Store → Context → Row Val → ReferenceOp → Code → Reduced
-- (ref.null ht)  ↪  the null reference
reference_op s e vs (reference.Null ht) c = steps_to s e (vs ▹ Null) (rest_of c)
-- [Step_pure/ref.is_null-true, ref.is_null-false]
-- ref ref.is_null  ↪  (i32.const 1) where it is null, and else (i32.const 0)
reference_op s e vs reference.IsNull c = do
  (vs, r) ← take_value vs
  by_null r (steps_to s e (vs ▹ I32 1) (rest_of c)) (steps_to s e (vs ▹ I32 0) (rest_of c))
-- [Step_read/ref.func]
-- F; (ref.func x)  ↪  F; (ref.func a)   where a is the address of function x: an instance has the addresses of its indices
reference_op s e vs (reference.Func x) c = do
  f ← or_stuck (slice_get s.functions x)
  steps_to s e (vs ▹ Func x) (rest_of c)
-- [Step_pure/ref.as_non_null-null, ref.as_non_null-addr]
-- ref ref.as_non_null  ↪  ref, or a trap where it is null
reference_op s e vs reference.AsNonNull c = do
  (vs, r) ← take_value vs
  by_null r (Trapped trap.NullReference) (steps_to s e (vs ▹ r) (rest_of c))
