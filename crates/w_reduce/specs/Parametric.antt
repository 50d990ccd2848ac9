-- Parametric instructions (Core, execution, parametric instructions).
use Rattle.std.specs.Prelude.{ℕ, zero, suc}
use Rattle.lists.specs.Rows.{Row, ◌▹◌}
use Rattle.w_syntax.specs.Code.{Code}
use Rattle.w_syntax.specs.declared.instructions.ParametricOp.{ParametricOp}
use Rattle.w_syntax.specs.declared.instructions.ParametricOp.TheVariants as parametric
use Rattle.w_reduce.specs.Values.{Val}
use Rattle.w_reduce.specs.Store.{Store}
use Rattle.w_reduce.specs.Terms.{rest_of, Context}
use Rattle.w_reduce.specs.Reduced.{Reduced, steps_to, ◌>>=◌, take_value, take_i32}

-- the first where the number isn't 0, and else the second
abbrev pub selected : {A : Type 0} → ℕ → A → A → A
selected zero a b = b
selected (suc n) a b = a

-- [Step_pure/select-true, select-false]
-- v1 v2 (i32.const c) select  ↪  v1 where c isn't 0, and else v2
abbrev pub select : Store → Context → Row Val → Code → Reduced
select s e vs c = do
  (vs, n) ← take_i32 vs
  (vs, b) ← take_value vs
  (vs, a) ← take_value vs
  steps_to s e (vs ▹ selected n a b) (rest_of c)

abbrev pub parametric_op : Store → Context → Row Val → ParametricOp → Code → Reduced
-- [Step_pure/drop]
-- v drop  ↪  ε
parametric_op s e vs parametric.Drop c = do
  (vs, v) ← take_value vs
  steps_to s e vs (rest_of c)
parametric_op s e vs parametric.Select c = select s e vs c
parametric_op s e vs (parametric.SelectOf ts) c = select s e vs c
