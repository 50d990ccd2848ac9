-- Table instructions (Core, execution, table instructions).
use Rattle.std.specs.Prelude.{ℕ, List, [], length, slice_get, slice_set}
use Rattle.lists.specs.Rows.{Row, ◌▹◌}
use Rattle.w_num.specs.Signed.{inverse}
use Rattle.w_tables.specs.Elements.{get, replaced, filled, copied, grown}
use Rattle.w_tables.specs.Outcomes.{growth}
use Rattle.w_syntax.specs.Code.{Code}
use Rattle.w_syntax.specs.declared.instructions.TableOp.{TableOp}
use Rattle.w_syntax.specs.declared.instructions.TableOp.TheVariants as table
use Rattle.w_reduce.specs.declared.trap.Trap.TheVariants as trap
use Rattle.w_reduce.specs.Values.{Val, I32}
use Rattle.w_reduce.specs.Store.{Store, Table}
use Rattle.w_reduce.specs.Terms.{rest_of, Context}
use Rattle.w_reduce.specs.Reduced.{Reduced, steps_to, ◌>>=◌, or_stuck, or_trap, take_value, take_i32}

-- table x, whose elements were those of t, with these
abbrev pub with_elements : Store → ℕ → Table → List Val → Store
with_elements s x t vs = record s { tables = slice_set s.tables x (record t { elements = vs }) }

-- what is left of an element segment that was dropped
abbrev pub without_elements : Store → ℕ → Store
without_elements s y = record s { elements = slice_set s.elements y [] }

abbrev pub table_op : Store → Context → Row Val → TableOp → Code → Reduced
-- [Step_read/table.get-oob, table.get-val]
-- S; (i32.const i) (table.get x)  ↪  S; v   where element i of table x is v
table_op s e vs (table.Get x) c = do
  (vs, i) ← take_i32 vs
  t ← or_stuck (slice_get s.tables x)
  v ← or_trap trap.TableOutOfBounds (get t.elements i)
  steps_to s e (vs ▹ v) (rest_of c)
-- [Step/table.set-oob, table.set-val]
-- S; (i32.const i) v (table.set x)  ↪  S'; ε   where S' = S with v as that element
table_op s e vs (table.Set x) c = do
  (vs, v) ← take_value vs
  (vs, i) ← take_i32 vs
  t ← or_stuck (slice_get s.tables x)
  new ← or_trap trap.TableOutOfBounds (replaced t.elements i v)
  steps_to (with_elements s x t new) e vs (rest_of c)
-- [Step_read/table.init-oob, table.init-zero, table.init-succ]
-- S; (i32.const d) (i32.const j) (i32.const n) (table.init x y)  ↪  S'; ε
table_op s e vs (table.Init y x) c = do
  (vs, n) ← take_i32 vs
  (vs, j) ← take_i32 vs
  (vs, d) ← take_i32 vs
  t ← or_stuck (slice_get s.tables x)
  segment ← or_stuck (slice_get s.elements y)
  new ← or_trap trap.TableOutOfBounds (copied t.elements segment d j n)
  steps_to (with_elements s x t new) e vs (rest_of c)
-- [Step/elem.drop]
-- S; (elem.drop y)  ↪  S'; ε   where S' = S with element segment y empty
table_op s e vs (table.ElemDrop y) c = do
  segment ← or_stuck (slice_get s.elements y)
  steps_to (without_elements s y) e vs (rest_of c)
-- [Step_read/table.copy-oob, table.copy-zero, table.copy-le, table.copy-gt]
-- S; (i32.const d) (i32.const j) (i32.const n) (table.copy x y)  ↪  S'; ε
table_op s e vs (table.Copy x y) c = do
  (vs, n) ← take_i32 vs
  (vs, j) ← take_i32 vs
  (vs, d) ← take_i32 vs
  t ← or_stuck (slice_get s.tables x)
  source ← or_stuck (slice_get s.tables y)
  new ← or_trap trap.TableOutOfBounds (copied t.elements source.elements d j n)
  steps_to (with_elements s x t new) e vs (rest_of c)
-- [Step/table.grow-succeed, table.grow-fail]
-- S; v (i32.const n) (table.grow x)  ↪  S'; (i32.const k)   where S' = S with n times v more, which had k; or  ↪  S; (i32.const -1)
table_op s e vs (table.Grow x) c = do
  (vs, n) ← take_i32 vs
  (vs, v) ← take_value vs
  t ← or_stuck (slice_get s.tables x)
  let g = growth (length t.elements) s (with_elements s x t) (grown t.elements t.max v n) in
      steps_to g.1 e (vs ▹ I32 (inverse 32 g.0)) (rest_of c)
-- [Step_read/table.size]
-- S; (table.size x)  ↪  S; (i32.const n)   where table x has n elements
table_op s e vs (table.Size x) c = do
  t ← or_stuck (slice_get s.tables x)
  steps_to s e (vs ▹ I32 (length t.elements)) (rest_of c)
-- [Step_read/table.fill-oob, table.fill-zero, table.fill-succ]
-- S; (i32.const i) v (i32.const n) (table.fill x)  ↪  S'; ε
table_op s e vs (table.Fill x) c = do
  (vs, n) ← take_i32 vs
  (vs, v) ← take_value vs
  (vs, i) ← take_i32 vs
  t ← or_stuck (slice_get s.tables x)
  new ← or_trap trap.TableOutOfBounds (filled t.elements i v n)
  steps_to (with_elements s x t new) e vs (rest_of c)
