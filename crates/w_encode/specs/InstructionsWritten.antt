-- The canonical spelling of instructions.
use Rattle.std.specs.Prelude.{ℕ, List, [], ◌∷◌, ◌++◌}
use Rattle.std.specs.List.{flat_map}
use Rattle.w_leb.specs.Number.{shortest, shortest_signed}
use Rattle.w_leb.specs.CanonicalLaws.{vec_written}
use Rattle.w_syntax.specs.declared.numeric.IntType.{IntType}
use Rattle.w_syntax.specs.declared.numeric.IntType.TheVariants as int
use Rattle.w_syntax.specs.declared.numeric.Unop.{Unop}
use Rattle.w_syntax.specs.declared.numeric.Unop.TheVariants as unary
use Rattle.w_syntax.specs.declared.numeric.Binop.{Binop}
use Rattle.w_syntax.specs.declared.numeric.Binop.TheVariants as binary
use Rattle.w_syntax.specs.declared.numeric.Relop.{Relop}
use Rattle.w_syntax.specs.declared.numeric.Relop.TheVariants as compare
use Rattle.w_syntax.specs.declared.numeric.Cvtop.{Cvtop}
use Rattle.w_syntax.specs.declared.numeric.Cvtop.TheVariants as convert
use Rattle.w_syntax.specs.declared.numeric.NumericOp.{NumericOp}
use Rattle.w_syntax.specs.declared.numeric.NumericOp.TheVariants as numeric
use Rattle.w_syntax.specs.declared.memory_instructions.LoadOp.{LoadOp}
use Rattle.w_syntax.specs.declared.memory_instructions.LoadOp.TheVariants as load
use Rattle.w_syntax.specs.declared.memory_instructions.StoreOp.{StoreOp}
use Rattle.w_syntax.specs.declared.memory_instructions.StoreOp.TheVariants as store
use Rattle.w_syntax.specs.declared.memory_instructions.MemArg.{MemArg}
use Rattle.w_syntax.specs.declared.memory_instructions.MemoryOp.{MemoryOp}
use Rattle.w_syntax.specs.declared.memory_instructions.MemoryOp.TheVariants as memory
use Rattle.w_syntax.specs.declared.instructions.ControlOp.{ControlOp}
use Rattle.w_syntax.specs.declared.instructions.ControlOp.TheVariants as control
use Rattle.w_syntax.specs.declared.instructions.ParametricOp.{ParametricOp}
use Rattle.w_syntax.specs.declared.instructions.ParametricOp.TheVariants as parametric
use Rattle.w_syntax.specs.declared.instructions.VariableOp.{VariableOp}
use Rattle.w_syntax.specs.declared.instructions.VariableOp.TheVariants as variable
use Rattle.w_syntax.specs.declared.instructions.TableOp.{TableOp}
use Rattle.w_syntax.specs.declared.instructions.TableOp.TheVariants as table_op
use Rattle.w_syntax.specs.declared.instructions.ReferenceOp.{ReferenceOp}
use Rattle.w_syntax.specs.declared.instructions.ReferenceOp.TheVariants as reference
use Rattle.w_syntax.specs.declared.instructions.Clause.{Clause}
use Rattle.w_syntax.specs.declared.instructions.Clause.TheVariants as clause
use Rattle.w_syntax.specs.declared.instructions.SwitchingOp.{SwitchingOp}
use Rattle.w_syntax.specs.declared.instructions.SwitchingOp.TheVariants as switching
use Rattle.w_syntax.specs.declared.instructions.Op.{Op}
use Rattle.w_syntax.specs.declared.instructions.Op.TheVariants as op
use Rattle.w_syntax.specs.declared.instructions.BlockKind.{BlockKind}
use Rattle.w_syntax.specs.declared.instructions.BlockKind.TheVariants as kind
use Rattle.w_syntax.specs.declared.instructions.BlockType.{BlockType}
use Rattle.w_syntax.specs.declared.instructions.BlockType.TheVariants as block
use Rattle.w_syntax.specs.declared.instructions.Token.{Token}
use Rattle.w_syntax.specs.declared.instructions.Token.TheVariants as tok
use Rattle.w_syntax.specs.Code.{Code}
use Rattle.w_syntax.specs.Expr.{tokens}
use Rattle.w_encode.specs.TypesWritten.{index_written, heaptype_written, valtype_written}

-- ## Numeric instructions

abbrev pub eqz_code : IntType → ℕ
eqz_code int.I32 = 0x45
eqz_code int.I64 = 0x50

abbrev pub compare_code : IntType → Relop → ℕ
compare_code int.I32 compare.Eq = 0x46
compare_code int.I32 compare.Ne = 0x47
compare_code int.I32 compare.LtS = 0x48
compare_code int.I32 compare.LtU = 0x49
compare_code int.I32 compare.GtS = 0x4A
compare_code int.I32 compare.GtU = 0x4B
compare_code int.I32 compare.LeS = 0x4C
compare_code int.I32 compare.LeU = 0x4D
compare_code int.I32 compare.GeS = 0x4E
compare_code int.I32 compare.GeU = 0x4F
compare_code int.I64 compare.Eq = 0x51
compare_code int.I64 compare.Ne = 0x52
compare_code int.I64 compare.LtS = 0x53
compare_code int.I64 compare.LtU = 0x54
compare_code int.I64 compare.GtS = 0x55
compare_code int.I64 compare.GtU = 0x56
compare_code int.I64 compare.LeS = 0x57
compare_code int.I64 compare.LeU = 0x58
compare_code int.I64 compare.GeS = 0x59
compare_code int.I64 compare.GeU = 0x5A

abbrev pub unary_code : IntType → Unop → ℕ
unary_code int.I32 unary.Clz = 0x67
unary_code int.I32 unary.Ctz = 0x68
unary_code int.I32 unary.Popcnt = 0x69
unary_code int.I64 unary.Clz = 0x79
unary_code int.I64 unary.Ctz = 0x7A
unary_code int.I64 unary.Popcnt = 0x7B

abbrev pub binary_code : IntType → Binop → ℕ
binary_code int.I32 binary.Add = 0x6A
binary_code int.I32 binary.Sub = 0x6B
binary_code int.I32 binary.Mul = 0x6C
binary_code int.I32 binary.DivS = 0x6D
binary_code int.I32 binary.DivU = 0x6E
binary_code int.I32 binary.RemS = 0x6F
binary_code int.I32 binary.RemU = 0x70
binary_code int.I32 binary.And = 0x71
binary_code int.I32 binary.Or = 0x72
binary_code int.I32 binary.Xor = 0x73
binary_code int.I32 binary.Shl = 0x74
binary_code int.I32 binary.ShrS = 0x75
binary_code int.I32 binary.ShrU = 0x76
binary_code int.I32 binary.Rotl = 0x77
binary_code int.I32 binary.Rotr = 0x78
binary_code int.I64 binary.Add = 0x7C
binary_code int.I64 binary.Sub = 0x7D
binary_code int.I64 binary.Mul = 0x7E
binary_code int.I64 binary.DivS = 0x7F
binary_code int.I64 binary.DivU = 0x80
binary_code int.I64 binary.RemS = 0x81
binary_code int.I64 binary.RemU = 0x82
binary_code int.I64 binary.And = 0x83
binary_code int.I64 binary.Or = 0x84
binary_code int.I64 binary.Xor = 0x85
binary_code int.I64 binary.Shl = 0x86
binary_code int.I64 binary.ShrS = 0x87
binary_code int.I64 binary.ShrU = 0x88
binary_code int.I64 binary.Rotl = 0x89
binary_code int.I64 binary.Rotr = 0x8A

abbrev pub convert_code : Cvtop → ℕ
convert_code convert.I32WrapI64 = 0xA7
convert_code convert.I64ExtendI32S = 0xAC
convert_code convert.I64ExtendI32U = 0xAD
convert_code convert.I32Extend8S = 0xC0
convert_code convert.I32Extend16S = 0xC1
convert_code convert.I64Extend8S = 0xC2
convert_code convert.I64Extend16S = 0xC3
convert_code convert.I64Extend32S = 0xC4

abbrev pub numeric_written : NumericOp → List ℕ
numeric_written (numeric.I32Const z) = 0x41 ∷ shortest_signed z
numeric_written (numeric.I64Const z) = 0x42 ∷ shortest_signed z
numeric_written (numeric.Eqz t) = eqz_code t ∷ []
numeric_written (numeric.Compare t o) = compare_code t o ∷ []
numeric_written (numeric.Unary t o) = unary_code t o ∷ []
numeric_written (numeric.Binary t o) = binary_code t o ∷ []
numeric_written (numeric.Convert o) = convert_code o ∷ []

-- ## Memory instructions

abbrev pub load_code : LoadOp → ℕ
load_code load.I32Load = 0x28
load_code load.I64Load = 0x29
load_code load.I32Load8S = 0x2C
load_code load.I32Load8U = 0x2D
load_code load.I32Load16S = 0x2E
load_code load.I32Load16U = 0x2F
load_code load.I64Load8S = 0x30
load_code load.I64Load8U = 0x31
load_code load.I64Load16S = 0x32
load_code load.I64Load16U = 0x33
load_code load.I64Load32S = 0x34
load_code load.I64Load32U = 0x35

abbrev pub store_code : StoreOp → ℕ
store_code store.I32Store = 0x36
store_code store.I64Store = 0x37
store_code store.I32Store8 = 0x3A
store_code store.I32Store16 = 0x3B
store_code store.I64Store8 = 0x3C
store_code store.I64Store16 = 0x3D
store_code store.I64Store32 = 0x3E

abbrev pub memarg_written : MemArg → List ℕ
memarg_written m = shortest m.align ++ shortest m.offset

-- two indices
abbrev pub two_written : ℕ → ℕ → List ℕ
two_written x y = shortest x ++ shortest y

abbrev pub memory_written : MemoryOp → List ℕ
memory_written (memory.Load o m) = load_code o ∷ memarg_written m
memory_written (memory.Store o m) = store_code o ∷ memarg_written m
memory_written (memory.Size x) = 0x3F ∷ shortest x
memory_written (memory.Grow x) = 0x40 ∷ shortest x
memory_written (memory.Init d x) = 0xFC ∷ 8 ∷ two_written d x
memory_written (memory.DataDrop d) = 0xFC ∷ 9 ∷ shortest d
memory_written (memory.Copy x y) = 0xFC ∷ 10 ∷ two_written x y
memory_written (memory.Fill x) = 0xFC ∷ 11 ∷ shortest x

-- ## Control instructions that hold no others

abbrev pub control_written : ControlOp → List ℕ
control_written control.Unreachable = 0x00 ∷ []
control_written control.Nop = 0x01 ∷ []
control_written (control.Br l) = 0x0C ∷ shortest l
control_written (control.BrIf l) = 0x0D ∷ shortest l
control_written (control.BrTable ls l) = 0x0E ∷ (vec_written shortest ls ++ shortest l)
control_written control.Return = 0x0F ∷ []
control_written (control.Call f) = 0x10 ∷ shortest f
control_written (control.CallIndirect t x) = 0x11 ∷ two_written t x
control_written (control.ReturnCall f) = 0x12 ∷ shortest f
control_written (control.ReturnCallIndirect t x) = 0x13 ∷ two_written t x
control_written (control.CallRef t) = 0x14 ∷ shortest t
control_written (control.ReturnCallRef t) = 0x15 ∷ shortest t
control_written (control.BrOnNull l) = 0xD5 ∷ shortest l
control_written (control.BrOnNonNull l) = 0xD6 ∷ shortest l

-- ## Parametric, variable, table and reference instructions

abbrev pub parametric_written : ParametricOp → List ℕ
parametric_written parametric.Drop = 0x1A ∷ []
parametric_written parametric.Select = 0x1B ∷ []
parametric_written (parametric.SelectOf ts) = 0x1C ∷ vec_written valtype_written ts

abbrev pub variable_written : VariableOp → List ℕ
variable_written (variable.LocalGet x) = 0x20 ∷ shortest x
variable_written (variable.LocalSet x) = 0x21 ∷ shortest x
variable_written (variable.LocalTee x) = 0x22 ∷ shortest x
variable_written (variable.GlobalGet x) = 0x23 ∷ shortest x
variable_written (variable.GlobalSet x) = 0x24 ∷ shortest x

abbrev pub table_op_written : TableOp → List ℕ
table_op_written (table_op.Get x) = 0x25 ∷ shortest x
table_op_written (table_op.Set x) = 0x26 ∷ shortest x
table_op_written (table_op.Init e x) = 0xFC ∷ 12 ∷ two_written e x
table_op_written (table_op.ElemDrop e) = 0xFC ∷ 13 ∷ shortest e
table_op_written (table_op.Copy x y) = 0xFC ∷ 14 ∷ two_written x y
table_op_written (table_op.Grow x) = 0xFC ∷ 15 ∷ shortest x
table_op_written (table_op.Size x) = 0xFC ∷ 16 ∷ shortest x
table_op_written (table_op.Fill x) = 0xFC ∷ 17 ∷ shortest x

abbrev pub reference_written : ReferenceOp → List ℕ
reference_written (reference.Null h) = 0xD0 ∷ heaptype_written h
reference_written reference.IsNull = 0xD1 ∷ []
reference_written (reference.Func x) = 0xD2 ∷ shortest x
reference_written reference.AsNonNull = 0xD4 ∷ []

-- ## Stack switching

abbrev pub clause_written : Clause → List ℕ
clause_written (clause.Label x l) = 0x00 ∷ two_written x l
clause_written (clause.Switch x) = 0x01 ∷ shortest x

abbrev pub switching_written : SwitchingOp → List ℕ
switching_written (switching.ContNew t) = 0xE0 ∷ shortest t
switching_written (switching.ContBind t u) = 0xE1 ∷ two_written t u
switching_written (switching.Suspend x) = 0xE2 ∷ shortest x
switching_written (switching.Resume t cs) = 0xE3 ∷ (shortest t ++ vec_written clause_written cs)
switching_written (switching.Switch t x) = 0xE6 ∷ two_written t x

-- ## All instructions

abbrev pub op_written : Op → List ℕ
op_written (op.Control o) = control_written o
op_written (op.Parametric o) = parametric_written o
op_written (op.Variable o) = variable_written o
op_written (op.Table o) = table_op_written o
op_written (op.Memory o) = memory_written o
op_written (op.Numeric o) = numeric_written o
op_written (op.Reference o) = reference_written o
op_written (op.Switching o) = switching_written o

-- as it is given: without a type, by a value type or by an index
abbrev pub blocktype_written : BlockType → List ℕ
blocktype_written block.Empty = 0x40 ∷ []
blocktype_written (block.Value t) = valtype_written t
blocktype_written (block.Index x) = index_written x

abbrev pub kind_code : BlockKind → ℕ
kind_code kind.Block = 0x02
kind_code kind.Loop = 0x03

abbrev pub token_written : Token → List ℕ
token_written (tok.Plain o) = op_written o
token_written (tok.Block k b) = kind_code k ∷ blocktype_written b
token_written (tok.If b) = 0x04 ∷ blocktype_written b
token_written tok.Else = 0x05 ∷ []
token_written tok.End = 0x0B ∷ []

-- instructions, an else wherever there is one, and the end
abbrev pub expr_written : Code → List ℕ
expr_written c = flat_map token_written (tokens c ++ tok.End ∷ [])
