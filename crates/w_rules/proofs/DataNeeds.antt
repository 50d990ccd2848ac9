-- A sequence is typed alike in contexts that differ in their number of data segments, where each has those that it names, and in none
-- that has not.
use Rattle.std.proofs.Common.{◌≡◌, ℕ, ◌+◌, ◌-◌, ◌≤◌, max, Bool, true, false, ◌&&◌, List, [], ◌∷◌, Option, Some, None, refl, sym, ap, subst, ◌∙◌, arith}
use Rattle.std.specs.Prelude.{All, nat_lt, slice_get}
use Rattle.std.proofs.lemmas.Bool.{lt-ltb, ltb-true}
use Rattle.std.proofs.lemmas.List.Elements.{All-weaker}
use Rattle.w_types.specs.declared.types.FuncType.{FuncType}
use Rattle.w_types.specs.declared.types.HeapType.{HeapType}
use Rattle.w_types.specs.declared.types.HeapType.TheVariants as heap
use Rattle.w_types.specs.declared.types.ValType.{ValType}
use Rattle.w_types.specs.declared.types.ValType.TheVariants.{I32, I64, Ref}
use Rattle.lists.specs.Rows.{Row, ε, ◌▹◌}
use Rattle.w_syntax.specs.Code.{Code, Done, Plain, Block, If, IfElse}
use Rattle.w_syntax.specs.declared.instructions.BlockType.{BlockType}
use Rattle.w_syntax.specs.declared.instructions.BlockType.TheVariants as blocktype
use Rattle.w_syntax.specs.declared.instructions.Clause.{Clause}
use Rattle.w_syntax.specs.declared.instructions.Clause.TheVariants as clause
use Rattle.w_syntax.specs.declared.instructions.ControlOp.{ControlOp}
use Rattle.w_syntax.specs.declared.instructions.ControlOp.TheVariants as control
use Rattle.w_syntax.specs.declared.instructions.ParametricOp.{ParametricOp}
use Rattle.w_syntax.specs.declared.instructions.ParametricOp.TheVariants as parametric
use Rattle.w_syntax.specs.declared.instructions.ReferenceOp.{ReferenceOp}
use Rattle.w_syntax.specs.declared.instructions.ReferenceOp.TheVariants as reference
use Rattle.w_syntax.specs.declared.instructions.SwitchingOp.{SwitchingOp}
use Rattle.w_syntax.specs.declared.instructions.SwitchingOp.TheVariants as switching
use Rattle.w_syntax.specs.declared.instructions.TableOp.{TableOp}
use Rattle.w_syntax.specs.declared.instructions.TableOp.TheVariants as table
use Rattle.w_syntax.specs.declared.instructions.VariableOp.{VariableOp}
use Rattle.w_syntax.specs.declared.instructions.VariableOp.TheVariants as variable
use Rattle.w_syntax.specs.declared.memory_instructions.MemoryOp.{MemoryOp}
use Rattle.w_syntax.specs.declared.memory_instructions.MemoryOp.TheVariants as memory
use Rattle.w_syntax.specs.declared.instructions.Op.{Op}
use Rattle.w_syntax.specs.declared.instructions.Op.TheVariants as op
use Rattle.w_syntax.specs.declared.module.Tag.{Tag}
use Rattle.w_rules.specs.Conditions.{Holds, ReturnsTyped, ControlCondition, TableCondition, SwitchingCondition, Condition, ClauseTyped}
use Rattle.w_rules.specs.Context.{Context, Arrow, func_at, cont_of, func_index_of_cont, type_of_func, tag_in, type_of_tag, arrow_of, label_of, labelled}
use Rattle.w_rules.specs.DataNeeds.{memory_needs, op_needs, needs, with_datas}
use Rattle.w_rules.specs.InstructionTypes.{InstrType, if_valid, has_memory, select_type, switch_to, switched_type, switch_type, params_of, call_type, tail_call_type, cont_bind_type, resume_type, control_op_type, parametric_op_type, variable_op_type, memory_op_type, table_op_type, reference_op_type, switching_op_type, instr_type, sets}
use Rattle.w_rules.specs.Operands.{Operand}
use Rattle.w_rules.specs.Peak.{net, past_net, past_arrow, in_arrow, extra, resume_tops, peak}
use Rattle.w_rules.specs.Typing.{HasInstrType, Derives}

-- ## Types by their indices

func_at_same : (c : Context) (n d : ℕ) (o : Option ℕ) → func_at (with_datas n c) o ≡ func_at (with_datas d c) o
func_at_same c n d None = refl
func_at_same c n d (Some x) = refl

cont_same : (c : Context) (n d x : ℕ) → cont_of (with_datas n c) x ≡ cont_of (with_datas d c) x
cont_same c n d x = func_at_same c n d (func_index_of_cont c x)

func_same : (c : Context) (n d x : ℕ) → type_of_func (with_datas n c) x ≡ type_of_func (with_datas d c) x
func_same c n d x = func_at_same c n d (slice_get c.functions x)

tag_in_same : (c : Context) (n d : ℕ) (o : Option Tag) → tag_in (with_datas n c) o ≡ tag_in (with_datas d c) o
tag_in_same c n d None = refl
tag_in_same c n d (Some t) = refl

tag_same : (c : Context) (n d x : ℕ) → type_of_tag (with_datas n c) x ≡ type_of_tag (with_datas d c) x
tag_same c n d x = tag_in_same c n d (slice_get c.tags x)

arrow_same : (c : Context) (n d : ℕ) (x : BlockType) → arrow_of (with_datas n c) x ≡ arrow_of (with_datas d c) x
arrow_same c n d blocktype.Empty = refl
arrow_same c n d (blocktype.Value t) = refl
arrow_same c n d (blocktype.Index x) = refl

-- ## Types of instructions

control_same : (c : Context) (n d : ℕ) (o : ControlOp) → control_op_type (with_datas n c) o ≡ control_op_type (with_datas d c) o
control_same c n d control.Unreachable = refl
control_same c n d control.Nop = refl
control_same c n d (control.Br l) = refl
control_same c n d (control.BrIf l) = refl
control_same c n d (control.BrTable ls l) = refl
control_same c n d control.Return = refl
control_same c n d (control.BrOnNull l) = refl
control_same c n d (control.BrOnNonNull l) = refl
control_same c n d (control.Call x) = ap call_type (func_same c n d x)
control_same c n d (control.CallIndirect y x) = refl
control_same c n d (control.CallRef y) = refl
control_same c n d (control.ReturnCall x) = ap tail_call_type (func_same c n d x)
control_same c n d (control.ReturnCallIndirect y x) = refl
control_same c n d (control.ReturnCallRef y) = refl

select_same : (c : Context) (n d : ℕ) (ts : List ValType) → select_type (with_datas n c) ts ≡ select_type (with_datas d c) ts
select_same c n d [] = refl
select_same c n d (t ∷ []) = refl
select_same c n d (t ∷ u ∷ us) = refl

parametric_same : (c : Context) (n d : ℕ) (o : ParametricOp) → parametric_op_type (with_datas n c) o ≡ parametric_op_type (with_datas d c) o
parametric_same c n d parametric.Drop = refl
parametric_same c n d parametric.Select = refl
parametric_same c n d (parametric.SelectOf ts) = select_same c n d ts

variable_same : (c : Context) (s : List Bool) (n d : ℕ) (o : VariableOp) → variable_op_type (with_datas n c) s o ≡ variable_op_type (with_datas d c) s o
variable_same c s n d (variable.LocalGet x) = refl
variable_same c s n d (variable.LocalSet x) = refl
variable_same c s n d (variable.LocalTee x) = refl
variable_same c s n d (variable.GlobalGet x) = refl
variable_same c s n d (variable.GlobalSet x) = refl

table_same : (c : Context) (n d : ℕ) (o : TableOp) → table_op_type (with_datas n c) o ≡ table_op_type (with_datas d c) o
table_same c n d (table.Get x) = refl
table_same c n d (table.Set x) = refl
table_same c n d (table.Init e x) = refl
table_same c n d (table.ElemDrop e) = refl
table_same c n d (table.Copy x y) = refl
table_same c n d (table.Grow x) = refl
table_same c n d (table.Size x) = refl
table_same c n d (table.Fill x) = refl

memory_same : (c : Context) (n d : ℕ) (o : MemoryOp) → memory_needs o ≤ n → memory_needs o ≤ d → memory_op_type (with_datas n c) o ≡ memory_op_type (with_datas d c) o
memory_same c n d (memory.Init e x) h k = rw (lt-ltb e n (omega arith), lt-ltb e d (omega arith)) refl
memory_same c n d (memory.DataDrop e) h k = rw (lt-ltb e n (omega arith), lt-ltb e d (omega arith)) refl
memory_same c n d (memory.Load o a) h k = refl
memory_same c n d (memory.Store o a) h k = refl
memory_same c n d (memory.Size x) h k = refl
memory_same c n d (memory.Grow x) h k = refl
memory_same c n d (memory.Copy x y) h k = refl
memory_same c n d (memory.Fill x) h k = refl

reference_same : (c : Context) (n d : ℕ) (o : ReferenceOp) → reference_op_type (with_datas n c) o ≡ reference_op_type (with_datas d c) o
reference_same c n d (reference.Null h) = refl
reference_same c n d reference.IsNull = refl
reference_same c n d (reference.Func x) = refl
reference_same c n d reference.AsNonNull = refl

switch_to_same : (c : Context) (n d x : ℕ) (us : Row ValType) (h : HeapType) → switch_to (with_datas n c) x us h ≡ switch_to (with_datas d c) x us h
switch_to_same c n d x us heap.Func = refl
switch_to_same c n d x us heap.NoFunc = refl
switch_to_same c n d x us heap.Cont = refl
switch_to_same c n d x us heap.NoCont = refl
switch_to_same c n d x us (heap.Index y) = ap (switched_type x us) (cont_same c n d y)

switch_same : (c : Context) (n d x : ℕ) (r : Row ValType) → switch_type (with_datas n c) x r ≡ switch_type (with_datas d c) x r
switch_same c n d x ε = refl
switch_same c n d x (us ▹ I32) = refl
switch_same c n d x (us ▹ I64) = refl
switch_same c n d x (us ▹ Ref r) = switch_to_same c n d x us r.heap

switching_same : (c : Context) (n d : ℕ) (o : SwitchingOp) → switching_op_type (with_datas n c) o ≡ switching_op_type (with_datas d c) o
switching_same c n d (switching.ContNew x) = refl
switching_same c n d (switching.ContBind x y) = ap (λ (o : Option FuncType). cont_bind_type x y o (cont_of (with_datas n c) y)) (cont_same c n d x) ∙ ap (cont_bind_type x y (cont_of (with_datas d c) x)) (cont_same c n d y)
switching_same c n d (switching.Suspend e) = ap call_type (tag_same c n d e)
switching_same c n d (switching.Resume x hs) = ap (resume_type x) (cont_same c n d x)
switching_same c n d (switching.Switch x e) = switch_same c n d x (params_of (cont_of (with_datas n c) x)) ∙ ap (λ (o : Option FuncType). switch_type (with_datas d c) x (params_of o)) (cont_same c n d x)

pub type_same : (c : Context) (s : List Bool) (n d : ℕ) (o : Op) → op_needs o ≤ n → op_needs o ≤ d → instr_type (with_datas n c) s o ≡ instr_type (with_datas d c) s o
type_same c s n d (op.Control o) h k = control_same c n d o
type_same c s n d (op.Parametric o) h k = parametric_same c n d o
type_same c s n d (op.Variable o) h k = variable_same c s n d o
type_same c s n d (op.Table o) h k = table_same c n d o
type_same c s n d (op.Memory o) h k = memory_same c n d o h k
type_same c s n d (op.Numeric o) h k = refl
type_same c s n d (op.Reference o) h k = reference_same c n d o
type_same c s n d (op.Switching o) h k = switching_same c n d o

-- ## What else rules ask

holds_as : {A : Type 0} (o q : Option A) (P Q : A → Type 0) → o ≡ q → ((x : A) → P x → Q x) → Holds o P → Holds q Q
holds_as None q P Q e f h = absurd h
holds_as (Some x) q P Q e f h = subst (λ (p : Option _). Holds p Q) e (f x h)

control_asks : (c : Context) (n d : ℕ) (o : ControlOp) → ControlCondition (with_datas n c) o → ControlCondition (with_datas d c) o
control_asks c n d control.Unreachable h = tt
control_asks c n d control.Nop h = tt
control_asks c n d (control.Br l) h = tt
control_asks c n d (control.BrIf l) h = tt
control_asks c n d (control.BrTable ls l) h = tt
control_asks c n d control.Return h = tt
control_asks c n d (control.BrOnNull l) h = tt
control_asks c n d (control.BrOnNonNull l) h = tt
control_asks c n d (control.Call x) h = tt
control_asks c n d (control.CallIndirect y x) h = h
control_asks c n d (control.CallRef y) h = tt
control_asks c n d (control.ReturnCall x) h = subst (ReturnsTyped (with_datas d c)) (func_same c n d x) h
control_asks c n d (control.ReturnCallIndirect y x) h = h
control_asks c n d (control.ReturnCallRef y) h = h

table_asks : (c : Context) (n d : ℕ) (o : TableOp) → TableCondition (with_datas n c) o → TableCondition (with_datas d c) o
table_asks c n d (table.Get x) h = tt
table_asks c n d (table.Set x) h = tt
table_asks c n d (table.Init e x) h = h
table_asks c n d (table.ElemDrop e) h = tt
table_asks c n d (table.Copy x y) h = h
table_asks c n d (table.Grow x) h = tt
table_asks c n d (table.Size x) h = tt
table_asks c n d (table.Fill x) h = tt

clause_asks : (c : Context) (n d : ℕ) (us : List ValType) (h : Clause) → ClauseTyped (with_datas n c) us h → ClauseTyped (with_datas d c) us h
clause_asks c n d us (clause.Label e l) t = record {
  tag = t.tag;
  beneath = t.beneath;
  is_null = t.is_null;
  index = t.index;
  target = t.target;
  has_tag = sym (tag_same c n d e) ∙ t.has_tag;
  has_label = t.has_label;
  has_cont = sym (cont_same c n d t.index) ∙ t.has_cont;
  arguments = t.arguments;
  takes = t.takes;
  gives = t.gives;
}
clause_asks c n d us (clause.Switch e) t = record {
  tag = t.tag;
  has_tag = sym (tag_same c n d e) ∙ t.has_tag;
  no_params = t.no_params;
  equal = t.equal;
}

switching_asks : (c : Context) (n d : ℕ) (o : SwitchingOp) → SwitchingCondition (with_datas n c) o → SwitchingCondition (with_datas d c) o
switching_asks c n d (switching.ContNew x) h = tt
switching_asks c n d (switching.ContBind x y) h = record {
  one = h.one;
  other = h.other;
  has_one = sym (cont_same c n d x) ∙ h.has_one;
  has_other = sym (cont_same c n d y) ∙ h.has_other;
  takes = h.takes;
  gives = h.gives;
}
switching_asks c n d (switching.Suspend e) h = tt
switching_asks c n d (switching.Resume x hs) h =
    holds_as (cont_of (with_datas n c) x) (cont_of (with_datas d c) x) (λ (t : FuncType). All (ClauseTyped (with_datas n c) t.results) hs) (λ (t : FuncType). All (ClauseTyped (with_datas d c) t.results) hs) (cont_same c n d x)
    (λ t a. All-weaker (ClauseTyped (with_datas n c) t.results) (ClauseTyped (with_datas d c) t.results) (clause_asks c n d t.results) hs a) h
switching_asks c n d (switching.Switch x e) h = record {
  one = h.one;
  beneath = h.beneath;
  is_null = h.is_null;
  index = h.index;
  other = h.other;
  tag = h.tag;
  has_one = sym (cont_same c n d x) ∙ h.has_one;
  params = h.params;
  has_other = sym (cont_same c n d h.index) ∙ h.has_other;
  has_tag = sym (tag_same c n d e) ∙ h.has_tag;
  no_params = h.no_params;
  results = h.results;
  comes_back = h.comes_back;
}

asks : (c : Context) (n d : ℕ) (o : Op) → Condition (with_datas n c) o → Condition (with_datas d c) o
asks c n d (op.Control o) h = control_asks c n d o h
asks c n d (op.Table o) h = table_asks c n d o h
asks c n d (op.Switching o) h = switching_asks c n d o h
asks c n d (op.Parametric o) h = tt
asks c n d (op.Variable o) h = tt
asks c n d (op.Memory o) h = tt
asks c n d (op.Numeric o) h = tt
asks c n d (op.Reference o) h = tt

-- ## Sequences

-- typed with the segments that it names, it is typed so with any other number of them
pub typed_alike : (c : Context) (n d : ℕ) (k : Code) (s : List Bool) (ts us : Row Operand) → needs k ≤ n → needs k ≤ d → Derives (with_datas n c) s k ts us → Derives (with_datas d c) s k ts us
typed_alike c n d Done s ts us h k t = t
typed_alike c n d (Plain o r) s ts us h k t =
    let v = t.1.0 in
    (asks c n d o t.0, (v, subst (λ (l : InstrType). HasInstrType c.types l ts v) (type_same c s n d o (omega arith) (omega arith)) t.1.1, typed_alike c n d r (sets o s) v us (omega arith) (omega arith) t.1.2))
typed_alike c n d (Block kind x b r) s ts us h k t =
    holds_as (arrow_of (with_datas n c) x) (arrow_of (with_datas d c) x) _ _ (arrow_same c n d x)
    (λ a g. (typed_alike (labelled c (label_of kind a)) n d b s _ _ (omega arith) (omega arith) g.0, (g.1.0, g.1.1, typed_alike c n d r s g.1.0 us (omega arith) (omega arith) g.1.2))) t
typed_alike c n d (If x b r) s ts us h k t =
    holds_as (arrow_of (with_datas n c) x) (arrow_of (with_datas d c) x) _ _ (arrow_same c n d x)
    (λ a g. (g.0, typed_alike (labelled c a.to) n d b s _ _ (omega arith) (omega arith) g.1, (g.2.0, g.2.1, typed_alike c n d r s g.2.0 us (omega arith) (omega arith) g.2.2))) t
typed_alike c n d (IfElse x b e r) s ts us h k t =
    holds_as (arrow_of (with_datas n c) x) (arrow_of (with_datas d c) x) _ _ (arrow_same c n d x)
    (λ a g. (typed_alike (labelled c a.to) n d b s _ _ (omega arith) (omega arith) g.0, typed_alike (labelled c a.to) n d e s _ _ (omega arith) (omega arith) g.1, (g.2.0, g.2.1, typed_alike c n d r s g.2.0 us (omega arith) (omega arith) g.2.2))) t

-- ## What is typed has the segments that it names

valid_needs : (gs : List _) (v : Bool) (l : InstrType) (ts us : Row Operand) → HasInstrType gs (if_valid v l) ts us → v ≡ true
valid_needs gs true l ts us h = refl
valid_needs gs false l ts us h = absurd h

both_true : (a b : Bool) → a && b ≡ true → b ≡ true
both_true true b e = e
both_true false b e = absurd cc

memory_has : (c : Context) (n : ℕ) (o : MemoryOp) (ts us : Row Operand) → HasInstrType c.types (memory_op_type (with_datas n c) o) ts us → memory_needs o ≤ n
memory_has c n (memory.Init e x) ts us h = let t = ltb-true e n (both_true (has_memory c x) (nat_lt e n) (valid_needs c.types (has_memory c x && nat_lt e n) _ ts us h)) in omega arith
memory_has c n (memory.DataDrop e) ts us h = let t = ltb-true e n (valid_needs c.types (nat_lt e n) _ ts us h) in omega arith
memory_has c n (memory.Load o a) ts us h = omega arith
memory_has c n (memory.Store o a) ts us h = omega arith
memory_has c n (memory.Size x) ts us h = omega arith
memory_has c n (memory.Grow x) ts us h = omega arith
memory_has c n (memory.Copy x y) ts us h = omega arith
memory_has c n (memory.Fill x) ts us h = omega arith

op_has : (c : Context) (s : List Bool) (n : ℕ) (o : Op) (ts us : Row Operand) → HasInstrType c.types (instr_type (with_datas n c) s o) ts us → op_needs o ≤ n
op_has c s n (op.Memory o) ts us h = memory_has c n o ts us h
op_has c s n (op.Control o) ts us h = omega arith
op_has c s n (op.Parametric o) ts us h = omega arith
op_has c s n (op.Variable o) ts us h = omega arith
op_has c s n (op.Table o) ts us h = omega arith
op_has c s n (op.Numeric o) ts us h = omega arith
op_has c s n (op.Reference o) ts us h = omega arith
op_has c s n (op.Switching o) ts us h = omega arith

held : {A : Type 0} (o : Option A) (P : A → Type 0) → Holds o P → (x : A) × P x
held None P h = absurd h
held (Some x) P h = (x, h)

pub typed_has : (c : Context) (n : ℕ) (k : Code) (s : List Bool) (ts us : Row Operand) → Derives (with_datas n c) s k ts us → needs k ≤ n
typed_has c n Done s ts us t = omega arith
typed_has c n (Plain o r) s ts us t = let a = op_has c s n o ts t.1.0 t.1.1 in let b = typed_has c n r (sets o s) t.1.0 us t.1.2 in omega arith
typed_has c n (Block kind x b r) s ts us t =
    let g = held (arrow_of (with_datas n c) x) _ t in
    let a = typed_has (labelled c (label_of kind g.0)) n b s _ _ g.1.0 in
    let e = typed_has c n r s g.1.1.0 us g.1.1.2 in omega arith
typed_has c n (If x b r) s ts us t =
    let g = held (arrow_of (with_datas n c) x) _ t in
    let a = typed_has (labelled c g.0.to) n b s _ _ g.1.1 in
    let e = typed_has c n r s g.1.2.0 us g.1.2.2 in omega arith
typed_has c n (IfElse x b d r) s ts us t =
    let g = held (arrow_of (with_datas n c) x) _ t in
    let a = typed_has (labelled c g.0.to) n b s _ _ g.1.0 in
    let e = typed_has (labelled c g.0.to) n d s _ _ g.1.1 in
    let f = typed_has c n r s g.1.2.0 us g.1.2.2 in omega arith

-- ## Peaks

extra_same : (c : Context) (n d : ℕ) (o : Op) (h : ℕ) → extra (with_datas n c) o h ≡ extra (with_datas d c) o h
extra_same c n d (op.Switching (switching.Resume x hs)) h = ap (resume_tops c.labels h hs) (cont_same c n d x)
extra_same c n d (op.Switching (switching.ContNew x)) h = refl
extra_same c n d (op.Switching (switching.ContBind x y)) h = refl
extra_same c n d (op.Switching (switching.Suspend e)) h = refl
extra_same c n d (op.Switching (switching.Switch x e)) h = refl
extra_same c n d (op.Control o) h = refl
extra_same c n d (op.Parametric o) h = refl
extra_same c n d (op.Variable o) h = refl
extra_same c n d (op.Table o) h = refl
extra_same c n d (op.Memory o) h = refl
extra_same c n d (op.Numeric o) h = refl
extra_same c n d (op.Reference o) h = refl

past_same : (m : Option (ℕ × ℕ)) (h : ℕ) (f g : ℕ → ℕ) → ((i : ℕ) → f i ≡ g i) → past_net m h f ≡ past_net m h g
past_same None h f g e = refl
past_same (Some m) h f g e = e (h - m.0 + m.1)

in_same : (o q : Option Arrow) (f g : Arrow → ℕ) → o ≡ q → ((a : Arrow) → f a ≡ g a) → in_arrow o f ≡ in_arrow q g
in_same None q f g e k = ap (λ (p : Option Arrow). in_arrow p g) e
in_same (Some a) q f g e k = k a ∙ ap (λ (p : Option Arrow). in_arrow p g) e

pub peak_same : (c : Context) (n d : ℕ) (k : Code) (s : List Bool) (h : ℕ) → needs k ≤ n → needs k ≤ d → peak (with_datas n c) s k h ≡ peak (with_datas d c) s k h
peak_same c n d Done s h e f = refl
peak_same c n d (Plain o r) s h e f =
    ap (λ (x : ℕ). max (max h x) (past_net (net (instr_type (with_datas n c) s o)) h (peak (with_datas n c) (sets o s) r))) (extra_same c n d o h)
    ∙ ap (λ (l : InstrType). max (max h (extra (with_datas d c) o h)) (past_net (net l) h (peak (with_datas n c) (sets o s) r))) (type_same c s n d o (omega arith) (omega arith))
    ∙ ap (max (max h (extra (with_datas d c) o h))) (past_same (net (instr_type (with_datas d c) s o)) h _ _ (λ i. peak_same c n d r (sets o s) i (omega arith) (omega arith)))
peak_same c n d (Block kind x b r) s h e f =
    ap (max h) (in_same (arrow_of (with_datas n c) x) (arrow_of (with_datas d c) x) _ _ (arrow_same c n d x)
    (λ a. ap (λ (i : ℕ). max i (peak (with_datas n c) s r (past_arrow a h))) (peak_same (labelled c (label_of kind a)) n d b s h (omega arith) (omega arith)) ∙ ap (max (peak (with_datas d (labelled c (label_of kind a))) s b h)) (peak_same c n d r s (past_arrow a h) (omega arith) (omega arith))))
peak_same c n d (If x b r) s h e f =
    ap (max h) (in_same (arrow_of (with_datas n c) x) (arrow_of (with_datas d c) x) _ _ (arrow_same c n d x)
    (λ a. ap (λ (i : ℕ). max i (peak (with_datas n c) s r (past_arrow a (h - 1)))) (peak_same (labelled c a.to) n d b s (h - 1) (omega arith) (omega arith)) ∙ ap (max (peak (with_datas d (labelled c a.to)) s b (h - 1))) (peak_same c n d r s (past_arrow a (h - 1)) (omega arith) (omega arith))))
peak_same c n d (IfElse x b t r) s h e f =
    ap (max h) (in_same (arrow_of (with_datas n c) x) (arrow_of (with_datas d c) x) _ _ (arrow_same c n d x)
    (λ a. ap (λ (i : ℕ). max (max i (peak (with_datas n (labelled c a.to)) s t (h - 1))) (peak (with_datas n c) s r (past_arrow a (h - 1)))) (peak_same (labelled c a.to) n d b s (h - 1) (omega arith) (omega arith))
    ∙ ap (λ (i : ℕ). max (max (peak (with_datas d (labelled c a.to)) s b (h - 1)) i) (peak (with_datas n c) s r (past_arrow a (h - 1)))) (peak_same (labelled c a.to) n d t s (h - 1) (omega arith) (omega arith))
    ∙ ap (max (max (peak (with_datas d (labelled c a.to)) s b (h - 1)) (peak (with_datas d (labelled c a.to)) s t (h - 1)))) (peak_same c n d r s (past_arrow a (h - 1)) (omega arith) (omega arith))))
