-- Variable instructions (Core, execution, variable instructions).
use Rattle.std.specs.Prelude.{ℕ, slice_get, slice_set}
use Rattle.lists.specs.Rows.{Row, ◌▹◌}
use Rattle.w_syntax.specs.Code.{Code}
use Rattle.w_syntax.specs.declared.instructions.VariableOp.{VariableOp}
use Rattle.w_syntax.specs.declared.instructions.VariableOp.TheVariants as variable
use Rattle.w_reduce.specs.Values.{Val}
use Rattle.w_reduce.specs.Store.{Store}
use Rattle.w_reduce.specs.Terms.{rest_of, Context, locals_of, with_local}
use Rattle.w_reduce.specs.Reduced.{Reduced, steps_to, ◌>>=◌, or_stuck, take_value}

abbrev pub with_global : Store → ℕ → Val → Store
with_global s x v = record s { globals = slice_set s.globals x v }

abbrev pub variable_op : Store → Context → Row Val → VariableOp → Code → Reduced
-- [Step_read/local.get]
-- F; (local.get x)  ↪  F; v   where F.locals[x] = v
variable_op s e vs (variable.LocalGet x) c = do
  local ← or_stuck (slice_get (locals_of e) x)
  v ← or_stuck local
  steps_to s e (vs ▹ v) (rest_of c)
-- [Step/local.set]
-- F; v (local.set x)  ↪  F'; ε   where F' = F with locals[x] = v
variable_op s e vs (variable.LocalSet x) c = do
  local ← or_stuck (slice_get (locals_of e) x)
  (vs, v) ← take_value vs
  steps_to s (with_local x v e) vs (rest_of c)
-- [Step_pure/local.tee]
-- v (local.tee x)  ↪  v v (local.set x), and that is reduced at once
variable_op s e vs (variable.LocalTee x) c = do
  local ← or_stuck (slice_get (locals_of e) x)
  (vs, v) ← take_value vs
  steps_to s (with_local x v e) (vs ▹ v) (rest_of c)
-- [Step_read/global.get]
-- S; (global.get x)  ↪  S; v   where S.globals[x] = v
variable_op s e vs (variable.GlobalGet x) c = do
  v ← or_stuck (slice_get s.globals x)
  steps_to s e (vs ▹ v) (rest_of c)
-- [Step/global.set]
-- S; v (global.set x)  ↪  S'; ε   where S' = S with globals[x] = v
variable_op s e vs (variable.GlobalSet x) c = do
  old ← or_stuck (slice_get s.globals x)
  (vs, v) ← take_value vs
  steps_to (with_global s x v) e vs (rest_of c)
