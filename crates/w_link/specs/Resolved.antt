-- Code with addresses in the place of indices: each index stands for the address that its instance has there (Core, execution, runtime
-- structure).
use Rattle.std.specs.Prelude.{◌≡◌, ℕ, ◌+◌, List, map, slice_index_or}
use Rattle.w_syntax.specs.Code.{Code, Done, Plain, Block, If, IfElse}
use Rattle.w_syntax.specs.declared.instructions.BlockType.{BlockType}
use Rattle.w_syntax.specs.declared.instructions.BlockType.TheVariants as blocktype
use Rattle.w_syntax.specs.declared.instructions.Clause.{Clause}
use Rattle.w_syntax.specs.declared.instructions.Clause.TheVariants as clause
use Rattle.w_syntax.specs.declared.instructions.ControlOp.{ControlOp}
use Rattle.w_syntax.specs.declared.instructions.ControlOp.TheVariants as control
use Rattle.w_syntax.specs.declared.instructions.Op.{Op}
use Rattle.w_syntax.specs.declared.instructions.Op.TheVariants as op
use Rattle.w_syntax.specs.declared.instructions.ParametricOp.{ParametricOp}
use Rattle.w_syntax.specs.declared.instructions.ParametricOp.TheVariants as parametric
use Rattle.w_syntax.specs.declared.instructions.ReferenceOp.{ReferenceOp}
use Rattle.w_syntax.specs.declared.instructions.ReferenceOp.TheVariants as reference
use Rattle.w_syntax.specs.declared.instructions.SwitchingOp.{SwitchingOp}
use Rattle.w_syntax.specs.declared.instructions.SwitchingOp.TheVariants as switching
use Rattle.w_syntax.specs.declared.instructions.TableOp.{TableOp}
use Rattle.w_syntax.specs.declared.instructions.TableOp.TheVariants as table
use Rattle.w_syntax.specs.declared.instructions.VariableOp.{VariableOp}
use Rattle.w_syntax.specs.declared.instructions.VariableOp.TheVariants as variable
use Rattle.w_syntax.specs.declared.memory_instructions.MemoryOp.{MemoryOp}
use Rattle.w_syntax.specs.declared.memory_instructions.MemoryOp.TheVariants as memory
use Rattle.w_syntax.specs.declared.locals.LocalRun.{LocalRun}
use Rattle.w_link.specs.Shifted.{heap_shifted, type_shifted}

-- An instance of a module: for each of its index spaces the addresses that the indices stand for (Core, execution, module instances).
-- Types, element and data segments are not imported: their indices are counted on from those of the files before.
pub record Instance : Type 0 where
  pub types : ℕ
  pub functions : List ℕ
  pub tables : List ℕ
  pub memories : List ℕ
  pub globals : List ℕ
  pub tags : List ℕ
  pub elements : ℕ
  pub datas : ℕ

-- the address that an index stands for; an index that stands for none, as valid modules have none, is left
abbrev pub at : List ℕ → ℕ → ℕ
at addresses x = slice_index_or addresses x x

-- each index stands for itself
pub record IsWhole (i : Instance) : Type 0 where
  pub types : i.types ≡ 0
  pub functions : (x : ℕ) → at i.functions x ≡ x
  pub tables : (x : ℕ) → at i.tables x ≡ x
  pub memories : (x : ℕ) → at i.memories x ≡ x
  pub globals : (x : ℕ) → at i.globals x ≡ x
  pub tags : (x : ℕ) → at i.tags x ≡ x
  pub elements : i.elements ≡ 0
  pub datas : i.datas ≡ 0

-- ## Instructions

abbrev pub block_resolved : ℕ → BlockType → BlockType
block_resolved n blocktype.Empty = blocktype.Empty
block_resolved n (blocktype.Value t) = blocktype.Value (type_shifted n t)
block_resolved n (blocktype.Index x) = blocktype.Index (n + x)

abbrev pub control_resolved : Instance → ControlOp → ControlOp
control_resolved i control.Unreachable = control.Unreachable
control_resolved i control.Nop = control.Nop
control_resolved i (control.Br l) = control.Br l
control_resolved i (control.BrIf l) = control.BrIf l
control_resolved i (control.BrTable ls l) = control.BrTable ls l
control_resolved i control.Return = control.Return
control_resolved i (control.BrOnNull l) = control.BrOnNull l
control_resolved i (control.BrOnNonNull l) = control.BrOnNonNull l
control_resolved i (control.Call x) = control.Call (at i.functions x)
control_resolved i (control.CallIndirect y x) = control.CallIndirect (i.types + y) (at i.tables x)
control_resolved i (control.CallRef y) = control.CallRef (i.types + y)
control_resolved i (control.ReturnCall x) = control.ReturnCall (at i.functions x)
control_resolved i (control.ReturnCallIndirect y x) = control.ReturnCallIndirect (i.types + y) (at i.tables x)
control_resolved i (control.ReturnCallRef y) = control.ReturnCallRef (i.types + y)

abbrev pub parametric_resolved : Instance → ParametricOp → ParametricOp
parametric_resolved i parametric.Drop = parametric.Drop
parametric_resolved i parametric.Select = parametric.Select
parametric_resolved i (parametric.SelectOf ts) = parametric.SelectOf (map (type_shifted i.types) ts)

abbrev pub variable_resolved : Instance → VariableOp → VariableOp
variable_resolved i (variable.LocalGet x) = variable.LocalGet x
variable_resolved i (variable.LocalSet x) = variable.LocalSet x
variable_resolved i (variable.LocalTee x) = variable.LocalTee x
variable_resolved i (variable.GlobalGet x) = variable.GlobalGet (at i.globals x)
variable_resolved i (variable.GlobalSet x) = variable.GlobalSet (at i.globals x)

abbrev pub table_resolved : Instance → TableOp → TableOp
table_resolved i (table.Get x) = table.Get (at i.tables x)
table_resolved i (table.Set x) = table.Set (at i.tables x)
table_resolved i (table.Init y x) = table.Init (i.elements + y) (at i.tables x)
table_resolved i (table.ElemDrop y) = table.ElemDrop (i.elements + y)
table_resolved i (table.Copy x y) = table.Copy (at i.tables x) (at i.tables y)
table_resolved i (table.Grow x) = table.Grow (at i.tables x)
table_resolved i (table.Size x) = table.Size (at i.tables x)
table_resolved i (table.Fill x) = table.Fill (at i.tables x)

-- a load and a store name their memory beside their alignment and offset, which stay as they are
abbrev pub memory_resolved : Instance → MemoryOp → MemoryOp
memory_resolved i (memory.Load o arg) = memory.Load o (record arg { memory = at i.memories arg.memory })
memory_resolved i (memory.Store o arg) = memory.Store o (record arg { memory = at i.memories arg.memory })
memory_resolved i (memory.Size x) = memory.Size (at i.memories x)
memory_resolved i (memory.Grow x) = memory.Grow (at i.memories x)
memory_resolved i (memory.Init y x) = memory.Init (i.datas + y) (at i.memories x)
memory_resolved i (memory.DataDrop y) = memory.DataDrop (i.datas + y)
memory_resolved i (memory.Copy x y) = memory.Copy (at i.memories x) (at i.memories y)
memory_resolved i (memory.Fill x) = memory.Fill (at i.memories x)

abbrev pub reference_resolved : Instance → ReferenceOp → ReferenceOp
reference_resolved i (reference.Null h) = reference.Null (heap_shifted i.types h)
reference_resolved i reference.IsNull = reference.IsNull
reference_resolved i (reference.Func x) = reference.Func (at i.functions x)
reference_resolved i reference.AsNonNull = reference.AsNonNull

abbrev pub clause_resolved : Instance → Clause → Clause
clause_resolved i (clause.Label e l) = clause.Label (at i.tags e) l
clause_resolved i (clause.Switch e) = clause.Switch (at i.tags e)

abbrev pub switching_resolved : Instance → SwitchingOp → SwitchingOp
switching_resolved i (switching.ContNew x) = switching.ContNew (i.types + x)
switching_resolved i (switching.ContBind x y) = switching.ContBind (i.types + x) (i.types + y)
switching_resolved i (switching.Suspend e) = switching.Suspend (at i.tags e)
switching_resolved i (switching.Resume x hs) = switching.Resume (i.types + x) (map (clause_resolved i) hs)
switching_resolved i (switching.Switch x e) = switching.Switch (i.types + x) (at i.tags e)

abbrev pub op_resolved : Instance → Op → Op
op_resolved i (op.Control o) = op.Control (control_resolved i o)
op_resolved i (op.Parametric o) = op.Parametric (parametric_resolved i o)
op_resolved i (op.Variable o) = op.Variable (variable_resolved i o)
op_resolved i (op.Table o) = op.Table (table_resolved i o)
op_resolved i (op.Memory o) = op.Memory (memory_resolved i o)
op_resolved i (op.Numeric o) = op.Numeric o
op_resolved i (op.Reference o) = op.Reference (reference_resolved i o)
op_resolved i (op.Switching o) = op.Switching (switching_resolved i o)

abbrev pub code_resolved : Instance → Code → Code
code_resolved i Done = Done
code_resolved i (Plain o k) = Plain (op_resolved i o) (code_resolved i k)
code_resolved i (Block kind x b k) = Block kind (block_resolved i.types x) (code_resolved i b) (code_resolved i k)
code_resolved i (If x b k) = If (block_resolved i.types x) (code_resolved i b) (code_resolved i k)
code_resolved i (IfElse x b d k) = IfElse (block_resolved i.types x) (code_resolved i b) (code_resolved i d) (code_resolved i k)

-- runs of locals
abbrev pub run_shifted : ℕ → LocalRun → LocalRun
run_shifted n r = record { count = r.count; kind = type_shifted n r.kind }
