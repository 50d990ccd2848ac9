-- How many operands an instruction takes and gives is known, but where what comes behind it is not reached.
use Rattle.std.proofs.Common.{◌≡◌, ℕ, Bool, true, false, List, [], ◌∷◌, Option, Some, None, slice_get}
use Rattle.w_types.specs.declared.types.FuncType.{FuncType}
use Rattle.w_types.specs.declared.types.HeapType.{HeapType}
use Rattle.w_types.specs.declared.types.HeapType.TheVariants.{Index}
use Rattle.w_types.specs.declared.types.RecGroup.{RecGroup}
use Rattle.w_types.specs.declared.types.RefType.{RefType}
use Rattle.w_types.specs.declared.types.ValType.{ValType}
use Rattle.w_types.specs.declared.types.ValType.TheVariants.{I32, I64, Ref}
use Rattle.lists.specs.Rows.{Row, ε, ◌▹◌}
use Rattle.w_syntax.specs.declared.instructions.ControlOp.{ControlOp}
use Rattle.w_syntax.specs.declared.instructions.ControlOp.TheVariants as control
use Rattle.w_syntax.specs.declared.instructions.Op.{Op}
use Rattle.w_syntax.specs.declared.instructions.Op.TheVariants as op
use Rattle.w_syntax.specs.declared.instructions.ParametricOp.{ParametricOp}
use Rattle.w_syntax.specs.declared.instructions.ParametricOp.TheVariants as parametric
use Rattle.w_syntax.specs.declared.instructions.ReferenceOp.{ReferenceOp}
use Rattle.w_syntax.specs.declared.instructions.ReferenceOp.TheVariants as reference
use Rattle.w_syntax.specs.declared.instructions.SwitchingOp.{SwitchingOp}
use Rattle.w_syntax.specs.declared.instructions.SwitchingOp.TheVariants as switching
use Rattle.w_syntax.specs.declared.instructions.TableOp.{TableOp}
use Rattle.w_syntax.specs.declared.instructions.TableOp.TheVariants as table
use Rattle.w_syntax.specs.declared.instructions.VariableOp.{VariableOp}
use Rattle.w_syntax.specs.declared.instructions.VariableOp.TheVariants as variable
use Rattle.w_syntax.specs.declared.memory_instructions.MemoryOp.{MemoryOp}
use Rattle.w_syntax.specs.declared.memory_instructions.MemoryOp.TheVariants as memory
use Rattle.w_syntax.specs.declared.module.GlobalType.{GlobalType}
use Rattle.w_syntax.specs.declared.module.Mutability.{Mutability}
use Rattle.w_syntax.specs.declared.module.Mutability.TheVariants as mutability
use Rattle.w_syntax.specs.declared.module.TableType.{TableType}
use Rattle.w_syntax.specs.declared.numeric.Cvtop.{Cvtop}
use Rattle.w_syntax.specs.declared.numeric.Cvtop.TheVariants as convert
use Rattle.w_syntax.specs.declared.numeric.NumericOp.{NumericOp}
use Rattle.w_syntax.specs.declared.numeric.NumericOp.TheVariants as numeric
use Rattle.w_rules.specs.Context.{Context, cont_of}
use Rattle.w_rules.specs.InstructionTypes.{InstrType, fixed, if_valid, convert_type, numeric_op_type, select_type, parametric_op_type, get_type, set_type, tee_type, global_get_type, write_type, global_set_type, variable_op_type, memory_op_type, table_get_type, table_set_type, table_init_type, elem_drop_type, table_copy_type, table_grow_type, table_size_type, table_fill_type, table_op_type, ref_func_type, reference_op_type, br_if_type, br_on_null_type, br_on_non_null_type, call_type, call_indirect_type, call_ref_type, control_op_type, cont_new_type, cont_bind_type, resume_type, switched_type, switch_to, switch_type, switching_op_type, instr_type}
use Rattle.w_rules.specs.Operands.{Operand}
use Rattle.w_rules.specs.Peak.{net}
use Rattle.w_rules.specs.Typing.{HasInstrType}

-- whether what comes behind it is not reached
abbrev pub leaves : Op → Bool
leaves (op.Control control.Unreachable) = true
leaves (op.Control (control.Br l)) = true
leaves (op.Control (control.BrTable ls l)) = true
leaves (op.Control control.Return) = true
leaves (op.Control (control.ReturnCall x)) = true
leaves (op.Control (control.ReturnCallIndirect y x)) = true
leaves (op.Control (control.ReturnCallRef y)) = true
leaves o = false

module _ (gs : List RecGroup) (ts ws : Row Operand) where
  -- where there is a rule, it says how many
  abbrev Counted : InstrType → Type 0
  Counted it = HasInstrType gs it ts ws → net it ≡ None → ⊥

  one_type : (ins outs : Row ValType) → Counted (fixed ins outs)
  one_type ins outs h e = absurd (cc)

  if_type : (b : Bool) (ins outs : Row ValType) → Counted (if_valid b (fixed ins outs))
  if_type true ins outs h e = absurd (cc)
  if_type false ins outs h e = h

  convert_counted : (o : Cvtop) → Counted (convert_type o)
  convert_counted convert.I32WrapI64 h e = absurd (cc)
  convert_counted convert.I64ExtendI32S h e = absurd (cc)
  convert_counted convert.I64ExtendI32U h e = absurd (cc)
  convert_counted convert.I32Extend8S h e = absurd (cc)
  convert_counted convert.I32Extend16S h e = absurd (cc)
  convert_counted convert.I64Extend8S h e = absurd (cc)
  convert_counted convert.I64Extend16S h e = absurd (cc)
  convert_counted convert.I64Extend32S h e = absurd (cc)

  numeric_counted : (o : NumericOp) → Counted (numeric_op_type o)
  numeric_counted (numeric.I32Const z) h e = absurd (cc)
  numeric_counted (numeric.I64Const z) h e = absurd (cc)
  numeric_counted (numeric.Eqz t) h e = absurd (cc)
  numeric_counted (numeric.Compare t o) h e = absurd (cc)
  numeric_counted (numeric.Unary t o) h e = absurd (cc)
  numeric_counted (numeric.Binary t o) h e = absurd (cc)
  numeric_counted (numeric.Convert o) h e = convert_counted o h e

  module _ (c : Context) where
    select_counted : (us : List ValType) → Counted (select_type c us)
    select_counted [] h e = h
    select_counted (t ∷ []) h e = if_type _ _ _ h e
    select_counted (t ∷ u ∷ us) h e = h

    parametric_counted : (o : ParametricOp) → Counted (parametric_op_type c o)
    parametric_counted parametric.Drop h e = absurd (cc)
    parametric_counted parametric.Select h e = absurd (cc)
    parametric_counted (parametric.SelectOf us) h e = select_counted us h e

  get_counted : (t : Option ValType) (b : Option Bool) → Counted (get_type t b)
  get_counted None b h e = h
  get_counted (Some t) None h e = h
  get_counted (Some t) (Some false) h e = h
  get_counted (Some t) (Some true) h e = absurd (cc)

  set_counted : (t : Option ValType) → Counted (set_type t)
  set_counted None h e = h
  set_counted (Some t) h e = absurd (cc)

  tee_counted : (t : Option ValType) → Counted (tee_type t)
  tee_counted None h e = h
  tee_counted (Some t) h e = absurd (cc)

  global_get_counted : (g : Option GlobalType) → Counted (global_get_type g)
  global_get_counted None h e = h
  global_get_counted (Some g) h e = absurd (cc)

  write_counted : (w : Mutability) (t : ValType) → Counted (write_type w t)
  write_counted mutability.Var t h e = absurd (cc)
  write_counted mutability.Const t h e = h

  global_set_counted : (g : Option GlobalType) → Counted (global_set_type g)
  global_set_counted None h e = h
  global_set_counted (Some g) h e = write_counted g.mutability g.kind h e

  variable_counted : (c : Context) (s : List Bool) (o : VariableOp) → Counted (variable_op_type c s o)
  variable_counted c s (variable.LocalGet x) h e = get_counted (slice_get c.locals x) (slice_get s x) h e
  variable_counted c s (variable.LocalSet x) h e = set_counted (slice_get c.locals x) h e
  variable_counted c s (variable.LocalTee x) h e = tee_counted (slice_get c.locals x) h e
  variable_counted c s (variable.GlobalGet x) h e = global_get_counted (slice_get c.globals x) h e
  variable_counted c s (variable.GlobalSet x) h e = global_set_counted (slice_get c.globals x) h e

  memory_counted : (c : Context) (o : MemoryOp) → Counted (memory_op_type c o)
  memory_counted c (memory.Load o a) h e = if_type _ _ _ h e
  memory_counted c (memory.Store o a) h e = if_type _ _ _ h e
  memory_counted c (memory.Size x) h e = if_type _ _ _ h e
  memory_counted c (memory.Grow x) h e = if_type _ _ _ h e
  memory_counted c (memory.Init d x) h e = if_type _ _ _ h e
  memory_counted c (memory.DataDrop d) h e = if_type _ _ _ h e
  memory_counted c (memory.Copy x y) h e = if_type _ _ _ h e
  memory_counted c (memory.Fill x) h e = if_type _ _ _ h e

  table_get_counted : (t : Option TableType) → Counted (table_get_type t)
  table_get_counted None h e = h
  table_get_counted (Some t) h e = absurd (cc)

  table_set_counted : (t : Option TableType) → Counted (table_set_type t)
  table_set_counted None h e = h
  table_set_counted (Some t) h e = absurd (cc)

  table_init_counted : (r : Option RefType) (t : Option TableType) → Counted (table_init_type r t)
  table_init_counted None t h e = h
  table_init_counted (Some r) None h e = h
  table_init_counted (Some r) (Some t) h e = absurd (cc)

  elem_drop_counted : (r : Option RefType) → Counted (elem_drop_type r)
  elem_drop_counted None h e = h
  elem_drop_counted (Some r) h e = absurd (cc)

  table_copy_counted : (t u : Option TableType) → Counted (table_copy_type t u)
  table_copy_counted None u h e = h
  table_copy_counted (Some t) None h e = h
  table_copy_counted (Some t) (Some u) h e = absurd (cc)

  table_grow_counted : (t : Option TableType) → Counted (table_grow_type t)
  table_grow_counted None h e = h
  table_grow_counted (Some t) h e = absurd (cc)

  table_size_counted : (t : Option TableType) → Counted (table_size_type t)
  table_size_counted None h e = h
  table_size_counted (Some t) h e = absurd (cc)

  table_fill_counted : (t : Option TableType) → Counted (table_fill_type t)
  table_fill_counted None h e = h
  table_fill_counted (Some t) h e = absurd (cc)

  table_counted : (c : Context) (o : TableOp) → Counted (table_op_type c o)
  table_counted c (table.Get x) h e = table_get_counted (slice_get c.tables x) h e
  table_counted c (table.Set x) h e = table_set_counted (slice_get c.tables x) h e
  table_counted c (table.Init y x) h e = table_init_counted (slice_get c.elements y) (slice_get c.tables x) h e
  table_counted c (table.ElemDrop y) h e = elem_drop_counted (slice_get c.elements y) h e
  table_counted c (table.Copy x y) h e = table_copy_counted (slice_get c.tables x) (slice_get c.tables y) h e
  table_counted c (table.Grow x) h e = table_grow_counted (slice_get c.tables x) h e
  table_counted c (table.Size x) h e = table_size_counted (slice_get c.tables x) h e
  table_counted c (table.Fill x) h e = table_fill_counted (slice_get c.tables x) h e

  ref_func_counted : (y : Option ℕ) (b : Option Bool) → Counted (ref_func_type y b)
  ref_func_counted None b h e = h
  ref_func_counted (Some y) None h e = h
  ref_func_counted (Some y) (Some false) h e = h
  ref_func_counted (Some y) (Some true) h e = absurd (cc)

  reference_counted : (c : Context) (o : ReferenceOp) → Counted (reference_op_type c o)
  reference_counted c (reference.Null x) h e = if_type _ _ _ h e
  reference_counted c reference.IsNull h e = absurd (cc)
  reference_counted c (reference.Func x) h e = ref_func_counted (slice_get c.functions x) (slice_get c.declared x) h e
  reference_counted c reference.AsNonNull h e = absurd (cc)

  br_if_counted : (us : Option (Row ValType)) → Counted (br_if_type us)
  br_if_counted None h e = h
  br_if_counted (Some us) h e = absurd (cc)

  br_on_null_counted : (us : Option (Row ValType)) → Counted (br_on_null_type us)
  br_on_null_counted None h e = h
  br_on_null_counted (Some us) h e = absurd (cc)

  br_on_non_null_counted : (us : Option (Row ValType)) → Counted (br_on_non_null_type us)
  br_on_non_null_counted None h e = h
  br_on_non_null_counted (Some ε) h e = h
  br_on_non_null_counted (Some (us ▹ I32)) h e = h
  br_on_non_null_counted (Some (us ▹ I64)) h e = h
  br_on_non_null_counted (Some (us ▹ Ref r)) h e = absurd (cc)

  call_counted : (t : Option FuncType) → Counted (call_type t)
  call_counted None h e = h
  call_counted (Some t) h e = absurd (cc)

  call_indirect_counted : (t : Option TableType) (f : Option FuncType) → Counted (call_indirect_type t f)
  call_indirect_counted None f h e = h
  call_indirect_counted (Some t) None h e = h
  call_indirect_counted (Some t) (Some f) h e = absurd (cc)

  call_ref_counted : (x : ℕ) (f : Option FuncType) → Counted (call_ref_type x f)
  call_ref_counted x None h e = h
  call_ref_counted x (Some f) h e = absurd (cc)

  control_counted : (c : Context) (o : ControlOp) → leaves (op.Control o) ≡ false → Counted (control_op_type c o)
  control_counted c control.Unreachable n h e = absurd (cc)
  control_counted c control.Nop n h e = absurd (cc)
  control_counted c (control.Br l) n h e = absurd (cc)
  control_counted c (control.BrIf l) n h e = br_if_counted (slice_get c.labels l) h e
  control_counted c (control.BrTable ls l) n h e = absurd (cc)
  control_counted c control.Return n h e = absurd (cc)
  control_counted c (control.BrOnNull l) n h e = br_on_null_counted (slice_get c.labels l) h e
  control_counted c (control.BrOnNonNull l) n h e = br_on_non_null_counted (slice_get c.labels l) h e
  control_counted c (control.Call x) n h e = call_counted _ h e
  control_counted c (control.CallIndirect y x) n h e = call_indirect_counted _ _ h e
  control_counted c (control.CallRef y) n h e = call_ref_counted y _ h e
  control_counted c (control.ReturnCall x) n h e = absurd (cc)
  control_counted c (control.ReturnCallIndirect y x) n h e = absurd (cc)
  control_counted c (control.ReturnCallRef y) n h e = absurd (cc)

  cont_new_counted : (x : ℕ) (f : Option ℕ) → Counted (cont_new_type x f)
  cont_new_counted x None h e = h
  cont_new_counted x (Some f) h e = absurd (cc)

  cont_bind_counted : (x y : ℕ) (t u : Option FuncType) → Counted (cont_bind_type x y t u)
  cont_bind_counted x y None u h e = h
  cont_bind_counted x y (Some t) None h e = h
  cont_bind_counted x y (Some t) (Some u) h e = if_type _ _ _ h e

  resume_counted : (x : ℕ) (t : Option FuncType) → Counted (resume_type x t)
  resume_counted x None h e = h
  resume_counted x (Some t) h e = absurd (cc)

  switched_counted : (x : ℕ) (us : Row ValType) (t : Option FuncType) → Counted (switched_type x us t)
  switched_counted x us None h e = h
  switched_counted x us (Some t) h e = absurd (cc)

  switch_to_counted : (c : Context) (x : ℕ) (us : Row ValType) (t : HeapType) → Counted (switch_to c x us t)
  switch_to_counted c x us (Index y) h e = switched_counted x us _ h e
  switch_to_counted c x us _ h e = h

  switch_counted : (c : Context) (x : ℕ) (us : Row ValType) → Counted (switch_type c x us)
  switch_counted c x ε h e = h
  switch_counted c x (us ▹ I32) h e = h
  switch_counted c x (us ▹ I64) h e = h
  switch_counted c x (us ▹ Ref r) h e = switch_to_counted c x us r.heap h e

  switching_counted : (c : Context) (o : SwitchingOp) → Counted (switching_op_type c o)
  switching_counted c (switching.ContNew x) h e = cont_new_counted x _ h e
  switching_counted c (switching.ContBind x y) h e = cont_bind_counted x y (cont_of c x) (cont_of c y) h e
  switching_counted c (switching.Suspend x) h e = call_counted _ h e
  switching_counted c (switching.Resume x hs) h e = resume_counted x _ h e
  switching_counted c (switching.Switch x y) h e = switch_counted c x _ h e

  -- so the number is known
  pub counted : (c : Context) (s : List Bool) (o : Op) → leaves o ≡ false → Counted (instr_type c s o)
  counted c s (op.Control o) n h e = control_counted c o n h e
  counted c s (op.Parametric o) n h e = parametric_counted c o h e
  counted c s (op.Variable o) n h e = variable_counted c s o h e
  counted c s (op.Table o) n h e = table_counted c o h e
  counted c s (op.Memory o) n h e = memory_counted c o h e
  counted c s (op.Numeric o) n h e = numeric_counted o h e
  counted c s (op.Reference o) n h e = reference_counted c o h e
  counted c s (op.Switching o) n h e = switching_counted c o h e
