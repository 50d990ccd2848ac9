-- How instructions are spelled (Core, binary format, instructions; the explainer, binary format).
use Rattle.std.specs.Prelude.{ℕ, nat_lt, List, [], ◌∷◌}
use Rattle.w_leb.specs.Format.{Format, IsSolid}
use Rattle.w_leb.specs.Formats.{constant, ◌⊗◌, ◌⇒◌, such_that, table_or, table, choice, number, signed_number, vec}
use Rattle.w_syntax.specs.declared.numeric.IntType.TheVariants as int
use Rattle.w_syntax.specs.declared.numeric.Unop.TheVariants as unary
use Rattle.w_syntax.specs.declared.numeric.Binop.TheVariants as binary
use Rattle.w_syntax.specs.declared.numeric.Relop.TheVariants as compare
use Rattle.w_syntax.specs.declared.numeric.Cvtop.TheVariants as convert
use Rattle.w_syntax.specs.declared.numeric.NumericOp.{NumericOp}
use Rattle.w_syntax.specs.declared.numeric.NumericOp.TheVariants as numeric
use Rattle.w_syntax.specs.declared.memory_instructions.LoadOp.TheVariants as load
use Rattle.w_syntax.specs.declared.memory_instructions.StoreOp.TheVariants as store
use Rattle.w_syntax.specs.declared.memory_instructions.MemArg.{MemArg}
use Rattle.w_syntax.specs.declared.memory_instructions.MemoryOp.{MemoryOp}
use Rattle.w_syntax.specs.declared.memory_instructions.MemoryOp.TheVariants as memory
use Rattle.w_syntax.specs.declared.instructions.ControlOp.{ControlOp}
use Rattle.w_syntax.specs.declared.instructions.ControlOp.TheVariants as control
use Rattle.w_syntax.specs.declared.instructions.ParametricOp.TheVariants as parametric
use Rattle.w_syntax.specs.declared.instructions.VariableOp.TheVariants as variable
use Rattle.w_syntax.specs.declared.instructions.TableOp.TheVariants as table_op
use Rattle.w_syntax.specs.declared.instructions.ReferenceOp.TheVariants as reference
use Rattle.w_syntax.specs.declared.instructions.Clause.{Clause}
use Rattle.w_syntax.specs.declared.instructions.Clause.TheVariants as clause
use Rattle.w_syntax.specs.declared.instructions.SwitchingOp.TheVariants as switching
use Rattle.w_syntax.specs.declared.instructions.Op.{Op}
use Rattle.w_syntax.specs.declared.instructions.Op.TheVariants as op
use Rattle.w_syntax.specs.declared.instructions.BlockKind.TheVariants as kind
use Rattle.w_syntax.specs.declared.instructions.BlockType.{BlockType}
use Rattle.w_syntax.specs.declared.instructions.BlockType.TheVariants as block
use Rattle.w_syntax.specs.declared.instructions.Token.{Token}
use Rattle.w_syntax.specs.declared.instructions.Token.TheVariants as tok
use Rattle.w_syntax.specs.Types.{entries_of, valtypes, valtype, heaptype, index33, index33_solid}

-- ## Numeric instructions

abbrev pub arithmetics : List (ℕ × Format NumericOp)
arithmetics =
    (0x67, constant (numeric.Unary int.I32 unary.Clz))
    ∷ (0x68, constant (numeric.Unary int.I32 unary.Ctz))
    ∷ (0x69, constant (numeric.Unary int.I32 unary.Popcnt))
    ∷ (0x6A, constant (numeric.Binary int.I32 binary.Add))
    ∷ (0x6B, constant (numeric.Binary int.I32 binary.Sub))
    ∷ (0x6C, constant (numeric.Binary int.I32 binary.Mul))
    ∷ (0x6D, constant (numeric.Binary int.I32 binary.DivS))
    ∷ (0x6E, constant (numeric.Binary int.I32 binary.DivU))
    ∷ (0x6F, constant (numeric.Binary int.I32 binary.RemS))
    ∷ (0x70, constant (numeric.Binary int.I32 binary.RemU))
    ∷ (0x71, constant (numeric.Binary int.I32 binary.And))
    ∷ (0x72, constant (numeric.Binary int.I32 binary.Or))
    ∷ (0x73, constant (numeric.Binary int.I32 binary.Xor))
    ∷ (0x74, constant (numeric.Binary int.I32 binary.Shl))
    ∷ (0x75, constant (numeric.Binary int.I32 binary.ShrS))
    ∷ (0x76, constant (numeric.Binary int.I32 binary.ShrU))
    ∷ (0x77, constant (numeric.Binary int.I32 binary.Rotl))
    ∷ (0x78, constant (numeric.Binary int.I32 binary.Rotr))
    ∷ (0x79, constant (numeric.Unary int.I64 unary.Clz))
    ∷ (0x7A, constant (numeric.Unary int.I64 unary.Ctz))
    ∷ (0x7B, constant (numeric.Unary int.I64 unary.Popcnt))
    ∷ (0x7C, constant (numeric.Binary int.I64 binary.Add))
    ∷ (0x7D, constant (numeric.Binary int.I64 binary.Sub))
    ∷ (0x7E, constant (numeric.Binary int.I64 binary.Mul))
    ∷ (0x7F, constant (numeric.Binary int.I64 binary.DivS))
    ∷ (0x80, constant (numeric.Binary int.I64 binary.DivU))
    ∷ (0x81, constant (numeric.Binary int.I64 binary.RemS))
    ∷ (0x82, constant (numeric.Binary int.I64 binary.RemU))
    ∷ (0x83, constant (numeric.Binary int.I64 binary.And))
    ∷ (0x84, constant (numeric.Binary int.I64 binary.Or))
    ∷ (0x85, constant (numeric.Binary int.I64 binary.Xor))
    ∷ (0x86, constant (numeric.Binary int.I64 binary.Shl))
    ∷ (0x87, constant (numeric.Binary int.I64 binary.ShrS))
    ∷ (0x88, constant (numeric.Binary int.I64 binary.ShrU))
    ∷ (0x89, constant (numeric.Binary int.I64 binary.Rotl))
    ∷ (0x8A, constant (numeric.Binary int.I64 binary.Rotr))
    ∷ []

unfoldable pub arithmetic : Format NumericOp
arithmetic = table arithmetics

pub arithmetic_solid : IsSolid arithmetic.Spells
unfolding arithmetic
arithmetic_solid x h = h

abbrev pub comparisons : List (ℕ × Format NumericOp)
comparisons =
    (0x46, constant (numeric.Compare int.I32 compare.Eq))
    ∷ (0x47, constant (numeric.Compare int.I32 compare.Ne))
    ∷ (0x48, constant (numeric.Compare int.I32 compare.LtS))
    ∷ (0x49, constant (numeric.Compare int.I32 compare.LtU))
    ∷ (0x4A, constant (numeric.Compare int.I32 compare.GtS))
    ∷ (0x4B, constant (numeric.Compare int.I32 compare.GtU))
    ∷ (0x4C, constant (numeric.Compare int.I32 compare.LeS))
    ∷ (0x4D, constant (numeric.Compare int.I32 compare.LeU))
    ∷ (0x4E, constant (numeric.Compare int.I32 compare.GeS))
    ∷ (0x4F, constant (numeric.Compare int.I32 compare.GeU))
    ∷ (0x51, constant (numeric.Compare int.I64 compare.Eq))
    ∷ (0x52, constant (numeric.Compare int.I64 compare.Ne))
    ∷ (0x53, constant (numeric.Compare int.I64 compare.LtS))
    ∷ (0x54, constant (numeric.Compare int.I64 compare.LtU))
    ∷ (0x55, constant (numeric.Compare int.I64 compare.GtS))
    ∷ (0x56, constant (numeric.Compare int.I64 compare.GtU))
    ∷ (0x57, constant (numeric.Compare int.I64 compare.LeS))
    ∷ (0x58, constant (numeric.Compare int.I64 compare.LeU))
    ∷ (0x59, constant (numeric.Compare int.I64 compare.GeS))
    ∷ (0x5A, constant (numeric.Compare int.I64 compare.GeU))
    ∷ []

unfoldable pub comparison : Format NumericOp
comparison = table_or comparisons arithmetic arithmetic_solid

pub comparison_solid : IsSolid comparison.Spells
unfolding comparison
comparison_solid x h = h

abbrev pub numerics : List (ℕ × Format NumericOp)
numerics =
    (0x41, signed_number 32 ⇒ numeric.I32Const)
    ∷ (0x42, signed_number 64 ⇒ numeric.I64Const)
    ∷ (0x45, constant (numeric.Eqz int.I32))
    ∷ (0x50, constant (numeric.Eqz int.I64))
    ∷ (0xA7, constant (numeric.Convert convert.I32WrapI64))
    ∷ (0xAC, constant (numeric.Convert convert.I64ExtendI32S))
    ∷ (0xAD, constant (numeric.Convert convert.I64ExtendI32U))
    ∷ (0xC0, constant (numeric.Convert convert.I32Extend8S))
    ∷ (0xC1, constant (numeric.Convert convert.I32Extend16S))
    ∷ (0xC2, constant (numeric.Convert convert.I64Extend8S))
    ∷ (0xC3, constant (numeric.Convert convert.I64Extend16S))
    ∷ (0xC4, constant (numeric.Convert convert.I64Extend32S))
    ∷ []

unfoldable pub numeric_op : Format NumericOp
numeric_op = table_or numerics comparison comparison_solid

pub numeric_solid : IsSolid numeric_op.Spells
unfolding numeric_op
numeric_solid x h = h

-- ## Memory instructions

-- the exponent of the alignment, below 64, and the offset
unfoldable pub memarg : Format MemArg
memarg = such_that (λ n. nat_lt n 64) (number 32) ⊗ number 64 ⇒ λ p. record { align = p.0; memory = 0; offset = p.1 }

abbrev pub accesses : List (ℕ × Format MemoryOp)
accesses =
    (0x28, memarg ⇒ memory.Load load.I32Load)
    ∷ (0x29, memarg ⇒ memory.Load load.I64Load)
    ∷ (0x2C, memarg ⇒ memory.Load load.I32Load8S)
    ∷ (0x2D, memarg ⇒ memory.Load load.I32Load8U)
    ∷ (0x2E, memarg ⇒ memory.Load load.I32Load16S)
    ∷ (0x2F, memarg ⇒ memory.Load load.I32Load16U)
    ∷ (0x30, memarg ⇒ memory.Load load.I64Load8S)
    ∷ (0x31, memarg ⇒ memory.Load load.I64Load8U)
    ∷ (0x32, memarg ⇒ memory.Load load.I64Load16S)
    ∷ (0x33, memarg ⇒ memory.Load load.I64Load16U)
    ∷ (0x34, memarg ⇒ memory.Load load.I64Load32S)
    ∷ (0x35, memarg ⇒ memory.Load load.I64Load32U)
    ∷ (0x36, memarg ⇒ memory.Store store.I32Store)
    ∷ (0x37, memarg ⇒ memory.Store store.I64Store)
    ∷ (0x3A, memarg ⇒ memory.Store store.I32Store8)
    ∷ (0x3B, memarg ⇒ memory.Store store.I32Store16)
    ∷ (0x3C, memarg ⇒ memory.Store store.I64Store8)
    ∷ (0x3D, memarg ⇒ memory.Store store.I64Store16)
    ∷ (0x3E, memarg ⇒ memory.Store store.I64Store32)
    ∷ (0x3F, number 32 ⇒ memory.Size)
    ∷ (0x40, number 32 ⇒ memory.Grow)
    ∷ []

unfoldable pub memory_op : Format MemoryOp
memory_op = table accesses

-- behind the byte FC: by a number
abbrev pub bulks : List (ℕ × Format Op)
bulks =
    (8, number 32 ⊗ number 32 ⇒ λ p. op.Memory (memory.Init p.0 p.1))
    ∷ (9, number 32 ⇒ λ d. op.Memory (memory.DataDrop d))
    ∷ (10, number 32 ⊗ number 32 ⇒ λ p. op.Memory (memory.Copy p.0 p.1))
    ∷ (11, number 32 ⇒ λ m. op.Memory (memory.Fill m))
    ∷ (12, number 32 ⊗ number 32 ⇒ λ p. op.Table (table_op.Init p.0 p.1))
    ∷ (13, number 32 ⇒ λ e. op.Table (table_op.ElemDrop e))
    ∷ (14, number 32 ⊗ number 32 ⇒ λ p. op.Table (table_op.Copy p.0 p.1))
    ∷ (15, number 32 ⇒ λ t. op.Table (table_op.Grow t))
    ∷ (16, number 32 ⇒ λ t. op.Table (table_op.Size t))
    ∷ (17, number 32 ⇒ λ t. op.Table (table_op.Fill t))
    ∷ []

unfoldable pub bulk : Format Op
bulk = choice (number 32) bulks

-- ## Control instructions that hold no others

abbrev pub controls : List (ℕ × Format ControlOp)
controls =
    (0x00, constant control.Unreachable)
    ∷ (0x01, constant control.Nop)
    ∷ (0x0C, number 32 ⇒ control.Br)
    ∷ (0x0D, number 32 ⇒ control.BrIf)
    ∷ (0x0E, vec (number 32) ⊗ number 32 ⇒ λ p. control.BrTable p.0 p.1)
    ∷ (0x0F, constant control.Return)
    ∷ (0x10, number 32 ⇒ control.Call)
    ∷ (0x11, number 32 ⊗ number 32 ⇒ λ p. control.CallIndirect p.0 p.1)
    ∷ (0x12, number 32 ⇒ control.ReturnCall)
    ∷ (0x13, number 32 ⊗ number 32 ⇒ λ p. control.ReturnCallIndirect p.0 p.1)
    ∷ (0x14, number 32 ⇒ control.CallRef)
    ∷ (0x15, number 32 ⇒ control.ReturnCallRef)
    ∷ (0xD5, number 32 ⇒ control.BrOnNull)
    ∷ (0xD6, number 32 ⇒ control.BrOnNonNull)
    ∷ []

unfoldable pub control_op : Format ControlOp
control_op = table controls

-- ## Stack switching

-- a clause of a handler
abbrev pub clauses : List (ℕ × Format Clause)
clauses = (0x00, number 32 ⊗ number 32 ⇒ λ p. clause.Label p.0 p.1) ∷ (0x01, number 32 ⇒ clause.Switch) ∷ []

unfoldable pub hdl : Format Clause
hdl = table clauses

-- ## All instructions that hold no others

-- those of memories, and numeric ones
unfoldable pub plain : Format Op
plain = table_or (entries_of op.Memory accesses) (numeric_op ⇒ op.Numeric) (λ x h. numeric_solid h.0 h.1)

pub plain_solid : IsSolid plain.Spells
unfolding plain
plain_solid x h = h

-- parametric, variable, table, reference and stack switching instructions, and those behind FC
abbrev pub others : List (ℕ × Format Op)
others =
    (0x1A, constant (op.Parametric parametric.Drop))
    ∷ (0x1B, constant (op.Parametric parametric.Select))
    ∷ (0x1C, vec valtype ⇒ λ ts. op.Parametric (parametric.SelectOf ts))
    ∷ (0x20, number 32 ⇒ λ x. op.Variable (variable.LocalGet x))
    ∷ (0x21, number 32 ⇒ λ x. op.Variable (variable.LocalSet x))
    ∷ (0x22, number 32 ⇒ λ x. op.Variable (variable.LocalTee x))
    ∷ (0x23, number 32 ⇒ λ x. op.Variable (variable.GlobalGet x))
    ∷ (0x24, number 32 ⇒ λ x. op.Variable (variable.GlobalSet x))
    ∷ (0x25, number 32 ⇒ λ x. op.Table (table_op.Get x))
    ∷ (0x26, number 32 ⇒ λ x. op.Table (table_op.Set x))
    ∷ (0xD0, heaptype ⇒ λ h. op.Reference (reference.Null h))
    ∷ (0xD1, constant (op.Reference reference.IsNull))
    ∷ (0xD2, number 32 ⇒ λ x. op.Reference (reference.Func x))
    ∷ (0xD4, constant (op.Reference reference.AsNonNull))
    ∷ (0xE0, number 32 ⇒ λ x. op.Switching (switching.ContNew x))
    ∷ (0xE1, number 32 ⊗ number 32 ⇒ λ p. op.Switching (switching.ContBind p.0 p.1))
    ∷ (0xE2, number 32 ⇒ λ x. op.Switching (switching.Suspend x))
    ∷ (0xE3, number 32 ⊗ vec hdl ⇒ λ p. op.Switching (switching.Resume p.0 p.1))
    ∷ (0xE6, number 32 ⊗ number 32 ⇒ λ p. op.Switching (switching.Switch p.0 p.1))
    ∷ (0xFC, bulk)
    ∷ []

unfoldable pub other : Format Op
other = table_or others plain plain_solid

pub other_solid : IsSolid other.Spells
unfolding other
other_solid x h = h

unfoldable pub instruction : Format Op
instruction = table_or (entries_of op.Control controls) other other_solid

pub instruction_solid : IsSolid instruction.Spells
unfolding instruction
instruction_solid x h = h

-- ## Blocks

abbrev pub blocktypes : List (ℕ × Format BlockType)
blocktypes = (0x40, constant block.Empty) ∷ entries_of block.Value valtypes

unfoldable pub blocktype : Format BlockType
blocktype = table_or blocktypes (index33 ⇒ block.Index) (λ x h. index33_solid h.0 h.1)

-- an instruction, or a mark of the nesting
abbrev pub tokens_by_byte : List (ℕ × Format Token)
tokens_by_byte =
    (0x02, blocktype ⇒ tok.Block kind.Block)
    ∷ (0x03, blocktype ⇒ tok.Block kind.Loop)
    ∷ (0x04, blocktype ⇒ tok.If)
    ∷ (0x05, constant tok.Else)
    ∷ (0x0B, constant tok.End)
    ∷ []

unfoldable pub token : Format Token
token = table_or tokens_by_byte (instruction ⇒ tok.Plain) (λ x h. instruction_solid h.0 h.1)

pub token_solid : IsSolid token.Spells
unfolding token
token_solid x h = h
