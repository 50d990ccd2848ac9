-- The instructions that a body's packed ones stand for.
use Rattle.std.specs.Prelude.{Bool, List, map, Some, None}
use Rattle.w_types.specs.declared.types.HeapType.{HeapType}
use Rattle.w_types.specs.declared.types.HeapType.TheVariants as heap
use Rattle.w_types.specs.declared.types.ValType.TheVariants as val
use Rattle.w_syntax.specs.declared.instructions.BlockType.{BlockType}
use Rattle.w_syntax.specs.declared.instructions.BlockType.TheVariants as block
use Rattle.w_syntax.specs.declared.instructions.ControlOp.{ControlOp}
use Rattle.w_syntax.specs.declared.instructions.ControlOp.TheVariants as control
use Rattle.w_syntax.specs.declared.instructions.ParametricOp.TheVariants as parametric
use Rattle.w_syntax.specs.declared.instructions.SwitchingOp.{SwitchingOp}
use Rattle.w_syntax.specs.declared.instructions.SwitchingOp.TheVariants as switching
use Rattle.w_syntax.specs.declared.memory_instructions.MemoryOp.{MemoryOp}
use Rattle.w_syntax.specs.declared.memory_instructions.MemoryOp.TheVariants as memory
use Rattle.w_syntax.specs.declared.numeric.NumericOp.TheVariants as numeric
use Rattle.w_syntax.specs.declared.instructions.Op.{Op}
use Rattle.w_syntax.specs.declared.instructions.Op.TheVariants as op
use Rattle.w_syntax.specs.declared.instructions.Instr.{Instr}
use Rattle.w_syntax.specs.declared.instructions.Instr.TheVariants as flat
use Rattle.w_syntax.specs.declared.packed.AbstractHeapType.{AbstractHeapType}
use Rattle.w_syntax.specs.declared.packed.AbstractHeapType.TheVariants as abstract_heap
use Rattle.w_syntax.specs.declared.packed.ShortBlockType.{ShortBlockType}
use Rattle.w_syntax.specs.declared.packed.ShortBlockType.TheVariants as short_block
use Rattle.w_syntax.specs.declared.packed.ShortControlOp.{ShortControlOp}
use Rattle.w_syntax.specs.declared.packed.ShortControlOp.TheVariants as short_control
use Rattle.w_syntax.specs.declared.packed.ShortMemoryOp.{ShortMemoryOp}
use Rattle.w_syntax.specs.declared.packed.ShortMemoryOp.TheVariants as short_memory
use Rattle.w_syntax.specs.declared.packed.ShortSwitchingOp.{ShortSwitchingOp}
use Rattle.w_syntax.specs.declared.packed.ShortSwitchingOp.TheVariants as short_switching
use Rattle.w_syntax.specs.declared.packed.PackedInstr.{PackedInstr}
use Rattle.w_syntax.specs.declared.packed.PackedInstr.TheVariants as packed
use Rattle.w_syntax.specs.declared.packed.InstrView.{InstrView}
use Rattle.w_syntax.specs.declared.packed.InstrView.TheVariants as view

abbrev pub heap_of : AbstractHeapType → HeapType
heap_of abstract_heap.Func = heap.Func
heap_of abstract_heap.NoFunc = heap.NoFunc
heap_of abstract_heap.Cont = heap.Cont
heap_of abstract_heap.NoCont = heap.NoCont

-- the type of a block that gives one reference
abbrev pub reference_block : Bool → HeapType → BlockType
reference_block nullable h = block.Value (val.Ref (record { nullable = nullable; heap = h }))

abbrev pub block_type_of : ShortBlockType → BlockType
block_type_of short_block.Empty = block.Empty
block_type_of short_block.I32 = block.Value val.I32
block_type_of short_block.I64 = block.Value val.I64
block_type_of (short_block.Ref nullable h) = reference_block nullable (heap_of h)
block_type_of (short_block.RefTo nullable i) = reference_block nullable (heap.Index i)
block_type_of (short_block.Index i) = block.Index i

abbrev pub control_of : ShortControlOp → ControlOp
control_of short_control.Unreachable = control.Unreachable
control_of short_control.Nop = control.Nop
control_of (short_control.Br l) = control.Br l
control_of (short_control.BrIf l) = control.BrIf l
control_of short_control.Return = control.Return
control_of (short_control.BrOnNull l) = control.BrOnNull l
control_of (short_control.BrOnNonNull l) = control.BrOnNonNull l
control_of (short_control.Call f) = control.Call f
control_of (short_control.CallIndirect t k) = control.CallIndirect t k
control_of (short_control.CallRef t) = control.CallRef t
control_of (short_control.ReturnCall f) = control.ReturnCall f
control_of (short_control.ReturnCallIndirect t k) = control.ReturnCallIndirect t k
control_of (short_control.ReturnCallRef t) = control.ReturnCallRef t

abbrev pub memory_of : ShortMemoryOp → MemoryOp
memory_of (short_memory.Size m) = memory.Size m
memory_of (short_memory.Grow m) = memory.Grow m
memory_of (short_memory.Init d m) = memory.Init d m
memory_of (short_memory.DataDrop d) = memory.DataDrop d
memory_of (short_memory.Copy m n) = memory.Copy m n
memory_of (short_memory.Fill m) = memory.Fill m

abbrev pub switching_of : ShortSwitchingOp → SwitchingOp
switching_of (short_switching.ContNew t) = switching.ContNew t
switching_of (short_switching.ContBind t u) = switching.ContBind t u
switching_of (short_switching.Suspend e) = switching.Suspend e
switching_of (short_switching.Switch t e) = switching.Switch t e

-- the instruction that a packed one stands for
abbrev pub unpacked : PackedInstr → Instr
unpacked (packed.Control o) = flat.Plain (op.Control (control_of o))
unpacked packed.Drop = flat.Plain (op.Parametric parametric.Drop)
unpacked packed.Select = flat.Plain (op.Parametric parametric.Select)
unpacked (packed.Variable o) = flat.Plain (op.Variable o)
unpacked (packed.Table o) = flat.Plain (op.Table o)
unpacked (packed.Load o a x n) = flat.Plain (op.Memory (memory.Load o (record { align = a; memory = x; offset = n })))
unpacked (packed.Store o a x n) = flat.Plain (op.Memory (memory.Store o (record { align = a; memory = x; offset = n })))
unpacked (packed.Memory o) = flat.Plain (op.Memory (memory_of o))
unpacked (packed.I32Const n) = flat.Plain (op.Numeric (numeric.I32Const n))
unpacked (packed.I64Const n) = flat.Plain (op.Numeric (numeric.I64Const n))
unpacked (packed.Eqz t) = flat.Plain (op.Numeric (numeric.Eqz t))
unpacked (packed.Compare t o) = flat.Plain (op.Numeric (numeric.Compare t o))
unpacked (packed.Unary t o) = flat.Plain (op.Numeric (numeric.Unary t o))
unpacked (packed.Binary t o) = flat.Plain (op.Numeric (numeric.Binary t o))
unpacked (packed.Convert o) = flat.Plain (op.Numeric (numeric.Convert o))
unpacked (packed.Reference o) = flat.Plain (op.Reference o)
unpacked (packed.Switching o) = flat.Plain (op.Switching (switching_of o))
unpacked (packed.Block kind b e) = flat.Block kind (block_type_of b) e
unpacked (packed.If b e) = flat.If (block_type_of b) None e
unpacked (packed.IfElse b m e) = flat.If (block_type_of b) (Some m) e
unpacked packed.Else = flat.Else
unpacked packed.End = flat.End
unpacked (packed.Boxed i) = i.value

-- the instructions of a list
abbrev pub unpacked_all : List PackedInstr → List Instr
unpacked_all ps = map unpacked ps

-- the instruction holds no others, and is no mark
abbrev pub IsPlain : Instr → Type 0
IsPlain (flat.Plain o) = Unit {0}
IsPlain _ = ⊥

-- a fact of it, where it is such a one
abbrev pub OnPlain : (Op → Type 0) → Instr → Type 0
OnPlain P (flat.Plain o) = P o
OnPlain P _ = Unit {0}

-- the instruction that is seen
abbrev pub seen : InstrView → Instr
seen (view.Made i) = i
seen (view.Standing i) = i.now
