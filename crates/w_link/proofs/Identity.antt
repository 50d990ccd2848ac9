-- Where each index stands for itself, nothing changes.
use Rattle.std.proofs.Common.{◌≡◌, ℕ, ◌+◌, List, [], ◌∷◌, map, refl, ap, arith}
use Rattle.w_types.specs.declared.types.CompType.{CompType}
use Rattle.w_types.specs.declared.types.CompType.TheVariants as comp
use Rattle.w_types.specs.declared.types.FuncType.{FuncType}
use Rattle.w_types.specs.declared.types.HeapType.{HeapType}
use Rattle.w_types.specs.declared.types.HeapType.TheVariants as heap
use Rattle.w_types.specs.declared.types.RecGroup.{RecGroup}
use Rattle.w_types.specs.declared.types.SubType.{SubType}
use Rattle.w_types.specs.declared.types.ValType.{ValType}
use Rattle.w_types.specs.declared.types.ValType.TheVariants as val
use Rattle.w_syntax.specs.Code.{Code, Done, Plain, Block, If, IfElse}
use Rattle.w_syntax.specs.declared.instructions.BlockType.{BlockType}
use Rattle.w_syntax.specs.declared.instructions.BlockType.TheVariants as blocktype
use Rattle.w_syntax.specs.declared.instructions.Clause.{Clause}
use Rattle.w_syntax.specs.declared.instructions.Clause.TheVariants as clause
use Rattle.w_syntax.specs.declared.instructions.ControlOp.{ControlOp}
use Rattle.w_syntax.specs.declared.instructions.ControlOp.TheVariants as control
use Rattle.w_syntax.specs.declared.instructions.Op.{Op}
use Rattle.w_syntax.specs.declared.instructions.Op.TheVariants as op
use Rattle.w_syntax.specs.declared.instructions.ParametricOp.{ParametricOp}
use Rattle.w_syntax.specs.declared.instructions.ParametricOp.TheVariants as parametric
use Rattle.w_syntax.specs.declared.instructions.ReferenceOp.{ReferenceOp}
use Rattle.w_syntax.specs.declared.instructions.ReferenceOp.TheVariants as reference
use Rattle.w_syntax.specs.declared.instructions.SwitchingOp.{SwitchingOp}
use Rattle.w_syntax.specs.declared.instructions.SwitchingOp.TheVariants as switching
use Rattle.w_syntax.specs.declared.instructions.TableOp.{TableOp}
use Rattle.w_syntax.specs.declared.instructions.TableOp.TheVariants as table
use Rattle.w_syntax.specs.declared.instructions.VariableOp.{VariableOp}
use Rattle.w_syntax.specs.declared.instructions.VariableOp.TheVariants as variable
use Rattle.w_syntax.specs.declared.locals.LocalRun.{LocalRun}
use Rattle.w_syntax.specs.declared.memory_instructions.MemoryOp.{MemoryOp}
use Rattle.w_syntax.specs.declared.memory_instructions.MemoryOp.TheVariants as memory
use Rattle.w_link.specs.Shifted.{heap_shifted, type_shifted, func_shifted, comp_shifted, sub_shifted, group_shifted}
use Rattle.w_link.specs.Resolved.{Instance, IsWhole, block_resolved, control_resolved, parametric_resolved, variable_resolved, table_resolved, memory_resolved, reference_resolved, clause_resolved, switching_resolved, op_resolved, code_resolved, run_shifted}

pub each_same : {A : Type 0} (f : A → A) → ((x : A) → f x ≡ x) → (xs : List A) → map f xs ≡ xs
each_same f e [] = refl
each_same f e (x ∷ xs) = rw (e x, each_same f e xs) refl

pub none_before : (n x : ℕ) → n ≡ 0 → n + x ≡ x
none_before n x e = omega (arith, e)

pub heap_same : (n : ℕ) → n ≡ 0 → (h : HeapType) → heap_shifted n h ≡ h
heap_same n e heap.Func = refl
heap_same n e heap.NoFunc = refl
heap_same n e heap.Cont = refl
heap_same n e heap.NoCont = refl
heap_same n e (heap.Index x) = ap heap.Index (none_before n x e)

pub type_same : (n : ℕ) → n ≡ 0 → (t : ValType) → type_shifted n t ≡ t
type_same n e val.I32 = refl
type_same n e val.I64 = refl
type_same n e (val.Ref r) = ap (λ (h : HeapType). val.Ref (record { nullable = r.nullable; heap = h })) (heap_same n e r.heap)

pub func_same : (n : ℕ) → n ≡ 0 → (t : FuncType) → func_shifted n t ≡ t
func_same n e t = rw (each_same (type_shifted n) (type_same n e) t.params, each_same (type_shifted n) (type_same n e) t.results) refl

pub comp_same : (n : ℕ) → n ≡ 0 → (t : CompType) → comp_shifted n t ≡ t
comp_same n e (comp.Func t) = ap comp.Func (func_same n e t)
comp_same n e (comp.Cont x) = ap comp.Cont (none_before n x e)

pub sub_same : (n : ℕ) → n ≡ 0 → (t : SubType) → sub_shifted n t ≡ t
sub_same n e t = rw (each_same (λ (x : ℕ). n + x) (λ x. none_before n x e) t.supertypes, comp_same n e t.composite) refl

pub group_same : (n : ℕ) → n ≡ 0 → (g : RecGroup) → group_shifted n g ≡ g
group_same n e g = rw (each_same (sub_shifted n) (sub_same n e) g.types) refl

pub run_same : (n : ℕ) → n ≡ 0 → (r : LocalRun) → run_shifted n r ≡ r
run_same n e r = rw (type_same n e r.kind) refl

module _ (i : Instance) (w : IsWhole i) where
  shifted : (x : ℕ) → i.types + x ≡ x
  shifted x = none_before i.types x w.types

  block_same : (x : BlockType) → block_resolved i.types x ≡ x
  block_same blocktype.Empty = refl
  block_same (blocktype.Value t) = ap blocktype.Value (type_same i.types w.types t)
  block_same (blocktype.Index x) = ap blocktype.Index (shifted x)

  control_same : (o : ControlOp) → control_resolved i o ≡ o
  control_same (control.Call x) = ap control.Call (w.functions x)
  control_same (control.CallIndirect y x) = rw (shifted y, w.tables x) refl
  control_same (control.CallRef y) = ap control.CallRef (shifted y)
  control_same (control.ReturnCall x) = ap control.ReturnCall (w.functions x)
  control_same (control.ReturnCallIndirect y x) = rw (shifted y, w.tables x) refl
  control_same (control.ReturnCallRef y) = ap control.ReturnCallRef (shifted y)
  control_same control.Unreachable = refl
  control_same control.Nop = refl
  control_same (control.Br l) = refl
  control_same (control.BrIf l) = refl
  control_same (control.BrTable ls l) = refl
  control_same control.Return = refl
  control_same (control.BrOnNull l) = refl
  control_same (control.BrOnNonNull l) = refl

  parametric_same : (o : ParametricOp) → parametric_resolved i o ≡ o
  parametric_same parametric.Drop = refl
  parametric_same parametric.Select = refl
  parametric_same (parametric.SelectOf ts) = ap parametric.SelectOf (each_same (type_shifted i.types) (type_same i.types w.types) ts)

  variable_same : (o : VariableOp) → variable_resolved i o ≡ o
  variable_same (variable.LocalGet x) = refl
  variable_same (variable.LocalSet x) = refl
  variable_same (variable.LocalTee x) = refl
  variable_same (variable.GlobalGet x) = ap variable.GlobalGet (w.globals x)
  variable_same (variable.GlobalSet x) = ap variable.GlobalSet (w.globals x)

  table_same : (o : TableOp) → table_resolved i o ≡ o
  table_same (table.Get x) = ap table.Get (w.tables x)
  table_same (table.Set x) = ap table.Set (w.tables x)
  table_same (table.Init y x) = rw (none_before i.elements y w.elements, w.tables x) refl
  table_same (table.ElemDrop y) = ap table.ElemDrop (none_before i.elements y w.elements)
  table_same (table.Copy x y) = rw (w.tables x, w.tables y) refl
  table_same (table.Grow x) = ap table.Grow (w.tables x)
  table_same (table.Size x) = ap table.Size (w.tables x)
  table_same (table.Fill x) = ap table.Fill (w.tables x)

  memory_same : (o : MemoryOp) → memory_resolved i o ≡ o
  memory_same (memory.Load o arg) = rw (w.memories arg.memory) refl
  memory_same (memory.Store o arg) = rw (w.memories arg.memory) refl
  memory_same (memory.Size x) = ap memory.Size (w.memories x)
  memory_same (memory.Grow x) = ap memory.Grow (w.memories x)
  memory_same (memory.Init y x) = rw (none_before i.datas y w.datas, w.memories x) refl
  memory_same (memory.DataDrop y) = ap memory.DataDrop (none_before i.datas y w.datas)
  memory_same (memory.Copy x y) = rw (w.memories x, w.memories y) refl
  memory_same (memory.Fill x) = ap memory.Fill (w.memories x)

  reference_same : (o : ReferenceOp) → reference_resolved i o ≡ o
  reference_same (reference.Null h) = ap reference.Null (heap_same i.types w.types h)
  reference_same reference.IsNull = refl
  reference_same (reference.Func x) = ap reference.Func (w.functions x)
  reference_same reference.AsNonNull = refl

  clause_same : (h : Clause) → clause_resolved i h ≡ h
  clause_same (clause.Label e l) = ap (λ (x : ℕ). clause.Label x l) (w.tags e)
  clause_same (clause.Switch e) = ap clause.Switch (w.tags e)

  switching_same : (o : SwitchingOp) → switching_resolved i o ≡ o
  switching_same (switching.ContNew x) = ap switching.ContNew (shifted x)
  switching_same (switching.ContBind x y) = rw (shifted x, shifted y) refl
  switching_same (switching.Suspend e) = ap switching.Suspend (w.tags e)
  switching_same (switching.Resume x hs) = rw (shifted x, each_same (clause_resolved i) clause_same hs) refl
  switching_same (switching.Switch x e) = rw (shifted x, w.tags e) refl

  op_same : (o : Op) → op_resolved i o ≡ o
  op_same (op.Control o) = ap op.Control (control_same o)
  op_same (op.Parametric o) = ap op.Parametric (parametric_same o)
  op_same (op.Variable o) = ap op.Variable (variable_same o)
  op_same (op.Table o) = ap op.Table (table_same o)
  op_same (op.Memory o) = ap op.Memory (memory_same o)
  op_same (op.Numeric o) = refl
  op_same (op.Reference o) = ap op.Reference (reference_same o)
  op_same (op.Switching o) = ap op.Switching (switching_same o)

  -- so code is as it was
  pub code_same : (k : Code) → code_resolved i k ≡ k
  code_same Done = refl
  code_same (Plain o k) = rw (op_same o, code_same k) refl
  code_same (Block kind x b k) = rw (block_same x, code_same b, code_same k) refl
  code_same (If x b k) = rw (block_same x, code_same b, code_same k) refl
  code_same (IfElse x b d k) = rw (block_same x, code_same b, code_same d, code_same k) refl
