-- Control instructions that hold no others (Core, execution, control instructions).
use Rattle.std.specs.Prelude.{ℕ, zero, suc, Bool, if◌then◌else◌, Option, Some, None, slice_get}
use Rattle.lists.specs.Rows.{Row, ◌▹◌}
use Rattle.w_syntax.specs.Code.{Code}
use Rattle.w_syntax.specs.declared.instructions.ControlOp.{ControlOp}
use Rattle.w_syntax.specs.declared.instructions.ControlOp.TheVariants as control
use Rattle.w_rules.specs.Spaces.{functions_of}
use Rattle.w_reduce.specs.declared.trap.Trap.TheVariants as trap
use Rattle.w_reduce.specs.Values.{Val}
use Rattle.w_reduce.specs.Store.{Store}
use Rattle.w_reduce.specs.Terms.{rest_of, Context}
use Rattle.w_reduce.specs.Program.{Program}
use Rattle.w_reduce.specs.Branches.{branch, returns}
use Rattle.w_reduce.specs.Calls.{invoke, return_invoke}
use Rattle.w_reduce.specs.Reference.{by_null}
use Rattle.w_reduce.specs.Reduced.{Reduced, Trapped, steps_to, ◌>>=◌, or_stuck, or_trap, take_value, take_i32, as_function}

-- the first where the number isn't 0, and else the second
abbrev pub unless_zero : ℕ → Reduced → Reduced → Reduced
unless_zero zero taken passed = passed
unless_zero (suc n) taken passed = taken

-- the label of this number, and the last one where there are fewer
abbrev pub label_in : Option ℕ → ℕ → ℕ
label_in (Some l) last = l
label_in None last = last

-- the type of the function of address a matches type y
abbrev pub unless_mismatch : Bool → Reduced → Reduced
unless_mismatch fits go = if fits then go else Trapped trap.CallTypeMismatch

-- (i32.const i): the function of address a at place i of table x, whose type matches y
abbrev pub callee_in_table : Program → Store → Row Val → ℕ → ℕ → (Row Val × ℕ → Reduced) → Reduced
callee_in_table p s vs y x go = do
  (vs, i) ← take_i32 vs
  table ← or_stuck (slice_get s.tables x)
  r ← or_trap trap.UndefinedElement (slice_get table.elements i)
  a ← as_function trap.NullElement r
  z ← or_stuck (slice_get (functions_of p.source) a)
  unless_mismatch (p.matches z y) (go (vs, a))

-- (ref.func a): the function of address a
abbrev pub callee_in_reference : Row Val → (Row Val × ℕ → Reduced) → Reduced
callee_in_reference vs go = do
  (vs, r) ← take_value vs
  a ← as_function trap.NullReference r
  go (vs, a)

abbrev pub control_op : Program → Store → Context → Row Val → ControlOp → Code → Reduced
-- [Step_pure/unreachable]
-- unreachable  ↪  trap
control_op p s e vs control.Unreachable c = Trapped trap.Unreachable
-- [Step_pure/nop]
-- nop  ↪  ε
control_op p s e vs control.Nop c = steps_to s e vs (rest_of c)
-- [Step_pure/br-label-zero, br-label-succ]
control_op p s e vs (control.Br l) c = branch s l e vs
-- [Step_pure/br_if-true, br_if-false]
-- (i32.const n) (br_if l)  ↪  (br l) where n isn't 0, and that is reduced at once; else ε
control_op p s e vs (control.BrIf l) c = do
  (vs, n) ← take_i32 vs
  unless_zero n (branch s l e vs) (steps_to s e vs (rest_of c))
-- [Step_pure/br_table-lt, br_table-ge]
-- (i32.const i) (br_table l* l)  ↪  (br l*[i]), and (br l) where there is no such label
control_op p s e vs (control.BrTable ls l) c = do
  (vs, i) ← take_i32 vs
  branch s (label_in (slice_get ls i) l) e vs
-- [Step_pure/return-frame, return-label]
control_op p s e vs control.Return c = returns s e vs
-- [Step_pure/br_on_null-null, br_on_null-addr]
-- ref (br_on_null l)  ↪  (br l) where it is null, and that is reduced at once; else ref
control_op p s e vs (control.BrOnNull l) c = do
  (vs, r) ← take_value vs
  by_null r (branch s l e vs) (steps_to s e (vs ▹ r) (rest_of c))
-- [Step_pure/br_on_non_null-null, br_on_non_null-addr]
-- ref (br_on_non_null l)  ↪  ε where it is null; else ref (br l), and that is reduced at once
control_op p s e vs (control.BrOnNonNull l) c = do
  (vs, r) ← take_value vs
  by_null r (steps_to s e vs (rest_of c)) (branch s l e (vs ▹ r))
-- [Step_read/call]
-- v^n (call x)  ↪  v^n (invoke a), and that is reduced at once; a is the address of function x, its index
control_op p s e vs (control.Call x) c = invoke p s e vs x (rest_of c)
-- [Step_pure/call_indirect]
-- v^n (i32.const i) (call_indirect x y)  ↪  v^n (invoke a), and that is reduced at once
control_op p s e vs (control.CallIndirect y x) c = do
  (vs, a) ← callee_in_table p s vs y x
  invoke p s e vs a (rest_of c)
-- [Step_read/call_ref-null, call_ref-func]
-- v^n (ref.func a) (call_ref y)  ↪  v^n (invoke a), and that is reduced at once; a trap at null
control_op p s e vs (control.CallRef y) c = do
  (vs, a) ← callee_in_reference vs
  invoke p s e vs a (rest_of c)
-- [Step_read/return_call]
-- v^n (return_call x)  ↪  v^n (return_invoke a), and that is reduced at once; a is the address of function x, its index
control_op p s e vs (control.ReturnCall x) c = return_invoke p s e vs x
-- [Step_pure/return_call_indirect]
-- v^n (i32.const i) (return_call_indirect x y)  ↪  v^n (return_invoke a), and that is reduced at once
control_op p s e vs (control.ReturnCallIndirect y x) c = do
  (vs, a) ← callee_in_table p s vs y x
  return_invoke p s e vs a
-- [Step_read/return_call_ref-frame-null, return_call_ref-frame-addr]
-- v^n (ref.func a) (return_call_ref y)  ↪  v^n (return_invoke a), and that is reduced at once; a trap at null
control_op p s e vs (control.ReturnCallRef y) c = do
  (vs, a) ← callee_in_reference vs
  return_invoke p s e vs a
