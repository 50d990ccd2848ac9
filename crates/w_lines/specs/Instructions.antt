-- The names of instructions, and how their immediates are written.
use Rattle.std.specs.Prelude.{◌≡◌, if◌then◌else◌, ℕ, ◌+◌, ◌^◌, ◌<◌, nat_eq, List, [], ◌∷◌, ◌++◌, map, Option, Some, None, option_map, codes, decimal, ℤ, ⊤}
use Rattle.std.specs.Fmt.{signed_decimal}
use Rattle.std.specs.Str.{bytes_eq}
use Rattle.w_types.specs.declared.types.HeapType.{HeapType}
use Rattle.w_types.specs.declared.types.ValType.{ValType}
use Rattle.w_syntax.specs.declared.instructions.Clause.{Clause}
use Rattle.w_syntax.specs.declared.numeric.IntType.TheVariants as int
use Rattle.w_syntax.specs.declared.numeric.Unop.TheVariants as unary
use Rattle.w_syntax.specs.declared.numeric.Binop.TheVariants as binary
use Rattle.w_syntax.specs.declared.numeric.Relop.TheVariants as compare
use Rattle.w_syntax.specs.declared.numeric.Cvtop.TheVariants as convert
use Rattle.w_syntax.specs.declared.numeric.NumericOp.TheVariants as numeric
use Rattle.w_syntax.specs.declared.memory_instructions.LoadOp.TheVariants as load
use Rattle.w_syntax.specs.declared.memory_instructions.StoreOp.TheVariants as store
use Rattle.w_syntax.specs.declared.memory_instructions.MemArg.{MemArg}
use Rattle.w_syntax.specs.declared.memory_instructions.MemoryOp.TheVariants as memory
use Rattle.w_syntax.specs.declared.instructions.ControlOp.TheVariants as control
use Rattle.w_syntax.specs.declared.instructions.ParametricOp.TheVariants as parametric
use Rattle.w_syntax.specs.declared.instructions.VariableOp.TheVariants as variable
use Rattle.w_syntax.specs.declared.instructions.TableOp.TheVariants as table_op
use Rattle.w_syntax.specs.declared.instructions.ReferenceOp.TheVariants as reference
use Rattle.w_syntax.specs.declared.instructions.SwitchingOp.TheVariants as switching
use Rattle.w_syntax.specs.declared.instructions.Op.{Op}
use Rattle.w_syntax.specs.declared.instructions.Op.TheVariants as op
use Rattle.w_syntax.specs.declared.instructions.BlockKind.TheVariants as kind
use Rattle.w_syntax.specs.declared.instructions.BlockType.{BlockType}
use Rattle.w_syntax.specs.declared.instructions.Token.{Token}
use Rattle.w_syntax.specs.declared.instructions.Token.TheVariants as tok
use Rattle.w_encode.specs.InstructionsWritten.{token_written}
use Rattle.w_words.specs.Words.{Word, ◌>>=◌, Each, ended, next, one_of, two_of, each_of}
use Rattle.w_words.specs.Numbers.{Index32, SignedFits, number_of, signed_of}
use Rattle.w_words.specs.Types.{heap_word, HeapFits, heap_of, val_word, ValFits, val_of, block_word, BlockFits, block_of}
use Rattle.w_words.specs.Clauses.{labels_of, clause_word, ClauseFits, clause_of}

-- How an instruction's immediates are written, in the order of its bytes.
pub data Form : Type 0 where
  -- none
  Alone : Token → Form
  -- an index; two of them
  Index : (ℕ → Token) → Form
  Indices : (ℕ → ℕ → Token) → Form
  -- the exponent of the alignment, and the offset
  Access : (MemArg → Token) → Form
  -- a constant
  Const32 : (ℤ → Token) → Form
  Const64 : (ℤ → Token) → Form
  -- a heap type; value types; labels, the last one apart; an index and clauses
  Heap : (HeapType → Token) → Form
  Types : (List ValType → Token) → Form
  Labels : (List ℕ → ℕ → Token) → Form
  Clauses : (ℕ → List Clause → Token) → Form
  -- the type of a block
  Blocks : (BlockType → Token) → Form

-- the opcode, the name, and the form
abbrev pub Row : Type 0
Row = ℕ × Word × Form

-- the instructions of the standard's table, by their opcodes; what stands behind FC counts from 0xFC00
unfoldable pub rows : List Row
rows =
    (0x00, codes "unreachable", Alone (tok.Plain (op.Control control.Unreachable)))
    ∷ (0x01, codes "nop", Alone (tok.Plain (op.Control control.Nop)))
    ∷ (0x02, codes "block", Blocks (λ b. tok.Block kind.Block b))
    ∷ (0x03, codes "loop", Blocks (λ b. tok.Block kind.Loop b))
    ∷ (0x04, codes "if", Blocks (λ b. tok.If b))
    ∷ (0x05, codes "else", Alone tok.Else)
    ∷ (0x0B, codes "end", Alone tok.End)
    ∷ (0x0C, codes "br", Index (λ x. tok.Plain (op.Control (control.Br x))))
    ∷ (0x0D, codes "br_if", Index (λ x. tok.Plain (op.Control (control.BrIf x))))
    ∷ (0x0E, codes "br_table", Labels (λ ls l. tok.Plain (op.Control (control.BrTable ls l))))
    ∷ (0x0F, codes "return", Alone (tok.Plain (op.Control control.Return)))
    ∷ (0x10, codes "call", Index (λ x. tok.Plain (op.Control (control.Call x))))
    ∷ (0x11, codes "call_indirect", Indices (λ x y. tok.Plain (op.Control (control.CallIndirect x y))))
    ∷ (0x12, codes "return_call", Index (λ x. tok.Plain (op.Control (control.ReturnCall x))))
    ∷ (0x13, codes "return_call_indirect", Indices (λ x y. tok.Plain (op.Control (control.ReturnCallIndirect x y))))
    ∷ (0x14, codes "call_ref", Index (λ x. tok.Plain (op.Control (control.CallRef x))))
    ∷ (0x15, codes "return_call_ref", Index (λ x. tok.Plain (op.Control (control.ReturnCallRef x))))
    ∷ (0x1A, codes "drop", Alone (tok.Plain (op.Parametric parametric.Drop)))
    ∷ (0x1B, codes "select", Alone (tok.Plain (op.Parametric parametric.Select)))
    ∷ (0x1C, codes "select_t", Types (λ ts. tok.Plain (op.Parametric (parametric.SelectOf ts))))
    ∷ (0x20, codes "local.get", Index (λ x. tok.Plain (op.Variable (variable.LocalGet x))))
    ∷ (0x21, codes "local.set", Index (λ x. tok.Plain (op.Variable (variable.LocalSet x))))
    ∷ (0x22, codes "local.tee", Index (λ x. tok.Plain (op.Variable (variable.LocalTee x))))
    ∷ (0x23, codes "global.get", Index (λ x. tok.Plain (op.Variable (variable.GlobalGet x))))
    ∷ (0x24, codes "global.set", Index (λ x. tok.Plain (op.Variable (variable.GlobalSet x))))
    ∷ (0x25, codes "table.get", Index (λ x. tok.Plain (op.Table (table_op.Get x))))
    ∷ (0x26, codes "table.set", Index (λ x. tok.Plain (op.Table (table_op.Set x))))
    ∷ (0x28, codes "i32.load", Access (λ m. tok.Plain (op.Memory (memory.Load load.I32Load m))))
    ∷ (0x29, codes "i64.load", Access (λ m. tok.Plain (op.Memory (memory.Load load.I64Load m))))
    ∷ (0x2C, codes "i32.load8_s", Access (λ m. tok.Plain (op.Memory (memory.Load load.I32Load8S m))))
    ∷ (0x2D, codes "i32.load8_u", Access (λ m. tok.Plain (op.Memory (memory.Load load.I32Load8U m))))
    ∷ (0x2E, codes "i32.load16_s", Access (λ m. tok.Plain (op.Memory (memory.Load load.I32Load16S m))))
    ∷ (0x2F, codes "i32.load16_u", Access (λ m. tok.Plain (op.Memory (memory.Load load.I32Load16U m))))
    ∷ (0x30, codes "i64.load8_s", Access (λ m. tok.Plain (op.Memory (memory.Load load.I64Load8S m))))
    ∷ (0x31, codes "i64.load8_u", Access (λ m. tok.Plain (op.Memory (memory.Load load.I64Load8U m))))
    ∷ (0x32, codes "i64.load16_s", Access (λ m. tok.Plain (op.Memory (memory.Load load.I64Load16S m))))
    ∷ (0x33, codes "i64.load16_u", Access (λ m. tok.Plain (op.Memory (memory.Load load.I64Load16U m))))
    ∷ (0x34, codes "i64.load32_s", Access (λ m. tok.Plain (op.Memory (memory.Load load.I64Load32S m))))
    ∷ (0x35, codes "i64.load32_u", Access (λ m. tok.Plain (op.Memory (memory.Load load.I64Load32U m))))
    ∷ (0x36, codes "i32.store", Access (λ m. tok.Plain (op.Memory (memory.Store store.I32Store m))))
    ∷ (0x37, codes "i64.store", Access (λ m. tok.Plain (op.Memory (memory.Store store.I64Store m))))
    ∷ (0x3A, codes "i32.store8", Access (λ m. tok.Plain (op.Memory (memory.Store store.I32Store8 m))))
    ∷ (0x3B, codes "i32.store16", Access (λ m. tok.Plain (op.Memory (memory.Store store.I32Store16 m))))
    ∷ (0x3C, codes "i64.store8", Access (λ m. tok.Plain (op.Memory (memory.Store store.I64Store8 m))))
    ∷ (0x3D, codes "i64.store16", Access (λ m. tok.Plain (op.Memory (memory.Store store.I64Store16 m))))
    ∷ (0x3E, codes "i64.store32", Access (λ m. tok.Plain (op.Memory (memory.Store store.I64Store32 m))))
    ∷ (0x3F, codes "memory.size", Index (λ x. tok.Plain (op.Memory (memory.Size x))))
    ∷ (0x40, codes "memory.grow", Index (λ x. tok.Plain (op.Memory (memory.Grow x))))
    ∷ (0x41, codes "i32.const", Const32 (λ z. tok.Plain (op.Numeric (numeric.I32Const z))))
    ∷ (0x42, codes "i64.const", Const64 (λ z. tok.Plain (op.Numeric (numeric.I64Const z))))
    ∷ (0x45, codes "i32.eqz", Alone (tok.Plain (op.Numeric (numeric.Eqz int.I32))))
    ∷ (0x46, codes "i32.eq", Alone (tok.Plain (op.Numeric (numeric.Compare int.I32 compare.Eq))))
    ∷ (0x47, codes "i32.ne", Alone (tok.Plain (op.Numeric (numeric.Compare int.I32 compare.Ne))))
    ∷ (0x48, codes "i32.lt_s", Alone (tok.Plain (op.Numeric (numeric.Compare int.I32 compare.LtS))))
    ∷ (0x49, codes "i32.lt_u", Alone (tok.Plain (op.Numeric (numeric.Compare int.I32 compare.LtU))))
    ∷ (0x4A, codes "i32.gt_s", Alone (tok.Plain (op.Numeric (numeric.Compare int.I32 compare.GtS))))
    ∷ (0x4B, codes "i32.gt_u", Alone (tok.Plain (op.Numeric (numeric.Compare int.I32 compare.GtU))))
    ∷ (0x4C, codes "i32.le_s", Alone (tok.Plain (op.Numeric (numeric.Compare int.I32 compare.LeS))))
    ∷ (0x4D, codes "i32.le_u", Alone (tok.Plain (op.Numeric (numeric.Compare int.I32 compare.LeU))))
    ∷ (0x4E, codes "i32.ge_s", Alone (tok.Plain (op.Numeric (numeric.Compare int.I32 compare.GeS))))
    ∷ (0x4F, codes "i32.ge_u", Alone (tok.Plain (op.Numeric (numeric.Compare int.I32 compare.GeU))))
    ∷ (0x50, codes "i64.eqz", Alone (tok.Plain (op.Numeric (numeric.Eqz int.I64))))
    ∷ (0x51, codes "i64.eq", Alone (tok.Plain (op.Numeric (numeric.Compare int.I64 compare.Eq))))
    ∷ (0x52, codes "i64.ne", Alone (tok.Plain (op.Numeric (numeric.Compare int.I64 compare.Ne))))
    ∷ (0x53, codes "i64.lt_s", Alone (tok.Plain (op.Numeric (numeric.Compare int.I64 compare.LtS))))
    ∷ (0x54, codes "i64.lt_u", Alone (tok.Plain (op.Numeric (numeric.Compare int.I64 compare.LtU))))
    ∷ (0x55, codes "i64.gt_s", Alone (tok.Plain (op.Numeric (numeric.Compare int.I64 compare.GtS))))
    ∷ (0x56, codes "i64.gt_u", Alone (tok.Plain (op.Numeric (numeric.Compare int.I64 compare.GtU))))
    ∷ (0x57, codes "i64.le_s", Alone (tok.Plain (op.Numeric (numeric.Compare int.I64 compare.LeS))))
    ∷ (0x58, codes "i64.le_u", Alone (tok.Plain (op.Numeric (numeric.Compare int.I64 compare.LeU))))
    ∷ (0x59, codes "i64.ge_s", Alone (tok.Plain (op.Numeric (numeric.Compare int.I64 compare.GeS))))
    ∷ (0x5A, codes "i64.ge_u", Alone (tok.Plain (op.Numeric (numeric.Compare int.I64 compare.GeU))))
    ∷ (0x67, codes "i32.clz", Alone (tok.Plain (op.Numeric (numeric.Unary int.I32 unary.Clz))))
    ∷ (0x68, codes "i32.ctz", Alone (tok.Plain (op.Numeric (numeric.Unary int.I32 unary.Ctz))))
    ∷ (0x69, codes "i32.popcnt", Alone (tok.Plain (op.Numeric (numeric.Unary int.I32 unary.Popcnt))))
    ∷ (0x6A, codes "i32.add", Alone (tok.Plain (op.Numeric (numeric.Binary int.I32 binary.Add))))
    ∷ (0x6B, codes "i32.sub", Alone (tok.Plain (op.Numeric (numeric.Binary int.I32 binary.Sub))))
    ∷ (0x6C, codes "i32.mul", Alone (tok.Plain (op.Numeric (numeric.Binary int.I32 binary.Mul))))
    ∷ (0x6D, codes "i32.div_s", Alone (tok.Plain (op.Numeric (numeric.Binary int.I32 binary.DivS))))
    ∷ (0x6E, codes "i32.div_u", Alone (tok.Plain (op.Numeric (numeric.Binary int.I32 binary.DivU))))
    ∷ (0x6F, codes "i32.rem_s", Alone (tok.Plain (op.Numeric (numeric.Binary int.I32 binary.RemS))))
    ∷ (0x70, codes "i32.rem_u", Alone (tok.Plain (op.Numeric (numeric.Binary int.I32 binary.RemU))))
    ∷ (0x71, codes "i32.and", Alone (tok.Plain (op.Numeric (numeric.Binary int.I32 binary.And))))
    ∷ (0x72, codes "i32.or", Alone (tok.Plain (op.Numeric (numeric.Binary int.I32 binary.Or))))
    ∷ (0x73, codes "i32.xor", Alone (tok.Plain (op.Numeric (numeric.Binary int.I32 binary.Xor))))
    ∷ (0x74, codes "i32.shl", Alone (tok.Plain (op.Numeric (numeric.Binary int.I32 binary.Shl))))
    ∷ (0x75, codes "i32.shr_s", Alone (tok.Plain (op.Numeric (numeric.Binary int.I32 binary.ShrS))))
    ∷ (0x76, codes "i32.shr_u", Alone (tok.Plain (op.Numeric (numeric.Binary int.I32 binary.ShrU))))
    ∷ (0x77, codes "i32.rotl", Alone (tok.Plain (op.Numeric (numeric.Binary int.I32 binary.Rotl))))
    ∷ (0x78, codes "i32.rotr", Alone (tok.Plain (op.Numeric (numeric.Binary int.I32 binary.Rotr))))
    ∷ (0x79, codes "i64.clz", Alone (tok.Plain (op.Numeric (numeric.Unary int.I64 unary.Clz))))
    ∷ (0x7A, codes "i64.ctz", Alone (tok.Plain (op.Numeric (numeric.Unary int.I64 unary.Ctz))))
    ∷ (0x7B, codes "i64.popcnt", Alone (tok.Plain (op.Numeric (numeric.Unary int.I64 unary.Popcnt))))
    ∷ (0x7C, codes "i64.add", Alone (tok.Plain (op.Numeric (numeric.Binary int.I64 binary.Add))))
    ∷ (0x7D, codes "i64.sub", Alone (tok.Plain (op.Numeric (numeric.Binary int.I64 binary.Sub))))
    ∷ (0x7E, codes "i64.mul", Alone (tok.Plain (op.Numeric (numeric.Binary int.I64 binary.Mul))))
    ∷ (0x7F, codes "i64.div_s", Alone (tok.Plain (op.Numeric (numeric.Binary int.I64 binary.DivS))))
    ∷ (0x80, codes "i64.div_u", Alone (tok.Plain (op.Numeric (numeric.Binary int.I64 binary.DivU))))
    ∷ (0x81, codes "i64.rem_s", Alone (tok.Plain (op.Numeric (numeric.Binary int.I64 binary.RemS))))
    ∷ (0x82, codes "i64.rem_u", Alone (tok.Plain (op.Numeric (numeric.Binary int.I64 binary.RemU))))
    ∷ (0x83, codes "i64.and", Alone (tok.Plain (op.Numeric (numeric.Binary int.I64 binary.And))))
    ∷ (0x84, codes "i64.or", Alone (tok.Plain (op.Numeric (numeric.Binary int.I64 binary.Or))))
    ∷ (0x85, codes "i64.xor", Alone (tok.Plain (op.Numeric (numeric.Binary int.I64 binary.Xor))))
    ∷ (0x86, codes "i64.shl", Alone (tok.Plain (op.Numeric (numeric.Binary int.I64 binary.Shl))))
    ∷ (0x87, codes "i64.shr_s", Alone (tok.Plain (op.Numeric (numeric.Binary int.I64 binary.ShrS))))
    ∷ (0x88, codes "i64.shr_u", Alone (tok.Plain (op.Numeric (numeric.Binary int.I64 binary.ShrU))))
    ∷ (0x89, codes "i64.rotl", Alone (tok.Plain (op.Numeric (numeric.Binary int.I64 binary.Rotl))))
    ∷ (0x8A, codes "i64.rotr", Alone (tok.Plain (op.Numeric (numeric.Binary int.I64 binary.Rotr))))
    ∷ (0xA7, codes "i32.wrap_i64", Alone (tok.Plain (op.Numeric (numeric.Convert convert.I32WrapI64))))
    ∷ (0xAC, codes "i64.extend_i32_s", Alone (tok.Plain (op.Numeric (numeric.Convert convert.I64ExtendI32S))))
    ∷ (0xAD, codes "i64.extend_i32_u", Alone (tok.Plain (op.Numeric (numeric.Convert convert.I64ExtendI32U))))
    ∷ (0xC0, codes "i32.extend8_s", Alone (tok.Plain (op.Numeric (numeric.Convert convert.I32Extend8S))))
    ∷ (0xC1, codes "i32.extend16_s", Alone (tok.Plain (op.Numeric (numeric.Convert convert.I32Extend16S))))
    ∷ (0xC2, codes "i64.extend8_s", Alone (tok.Plain (op.Numeric (numeric.Convert convert.I64Extend8S))))
    ∷ (0xC3, codes "i64.extend16_s", Alone (tok.Plain (op.Numeric (numeric.Convert convert.I64Extend16S))))
    ∷ (0xC4, codes "i64.extend32_s", Alone (tok.Plain (op.Numeric (numeric.Convert convert.I64Extend32S))))
    ∷ (0xD0, codes "ref.null", Heap (λ h. tok.Plain (op.Reference (reference.Null h))))
    ∷ (0xD1, codes "ref.is_null", Alone (tok.Plain (op.Reference reference.IsNull)))
    ∷ (0xD2, codes "ref.func", Index (λ x. tok.Plain (op.Reference (reference.Func x))))
    ∷ (0xD4, codes "ref.as_non_null", Alone (tok.Plain (op.Reference reference.AsNonNull)))
    ∷ (0xD5, codes "br_on_null", Index (λ x. tok.Plain (op.Control (control.BrOnNull x))))
    ∷ (0xD6, codes "br_on_non_null", Index (λ x. tok.Plain (op.Control (control.BrOnNonNull x))))
    ∷ (0xE0, codes "cont.new", Index (λ x. tok.Plain (op.Switching (switching.ContNew x))))
    ∷ (0xE1, codes "cont.bind", Indices (λ x y. tok.Plain (op.Switching (switching.ContBind x y))))
    ∷ (0xE2, codes "suspend", Index (λ x. tok.Plain (op.Switching (switching.Suspend x))))
    ∷ (0xE3, codes "resume", Clauses (λ t cs. tok.Plain (op.Switching (switching.Resume t cs))))
    ∷ (0xE6, codes "switch", Indices (λ x y. tok.Plain (op.Switching (switching.Switch x y))))
    ∷ (0xFC08, codes "memory.init", Indices (λ x y. tok.Plain (op.Memory (memory.Init x y))))
    ∷ (0xFC09, codes "data.drop", Index (λ x. tok.Plain (op.Memory (memory.DataDrop x))))
    ∷ (0xFC0A, codes "memory.copy", Indices (λ x y. tok.Plain (op.Memory (memory.Copy x y))))
    ∷ (0xFC0B, codes "memory.fill", Index (λ x. tok.Plain (op.Memory (memory.Fill x))))
    ∷ (0xFC0C, codes "table.init", Indices (λ x y. tok.Plain (op.Table (table_op.Init x y))))
    ∷ (0xFC0D, codes "elem.drop", Index (λ x. tok.Plain (op.Table (table_op.ElemDrop x))))
    ∷ (0xFC0E, codes "table.copy", Indices (λ x y. tok.Plain (op.Table (table_op.Copy x y))))
    ∷ (0xFC0F, codes "table.grow", Index (λ x. tok.Plain (op.Table (table_op.Grow x))))
    ∷ (0xFC10, codes "table.size", Index (λ x. tok.Plain (op.Table (table_op.Size x))))
    ∷ (0xFC11, codes "table.fill", Index (λ x. tok.Plain (op.Table (table_op.Fill x))))
    ∷ []

-- ## Writing

abbrev pub second : List ℕ → ℕ
second [] = 0
second (k ∷ b) = k

abbrev pub opcode_in : List ℕ → ℕ
opcode_in [] = 0
opcode_in (k ∷ b) = if nat_eq k 0xFC then 0xFC00 + second b else k

-- of its canonical spelling
abbrev pub opcode : Token → ℕ
opcode t = opcode_in (token_written t)

abbrev pub name_at : List Row → ℕ → Word
name_at [] k = []
name_at (r ∷ rs) k = if nat_eq k r.0 then r.1 else name_at rs k

abbrev pub token_name : Token → Word
token_name t = name_at rows (opcode t)

abbrev pub two_words : ℕ → ℕ → List Word
two_words x y = decimal x ∷ decimal y ∷ []

abbrev pub immediates_of : Op → List Word
immediates_of (op.Control (control.Br x)) = decimal x ∷ []
immediates_of (op.Control (control.BrIf x)) = decimal x ∷ []
immediates_of (op.Control (control.Call x)) = decimal x ∷ []
immediates_of (op.Control (control.CallIndirect x y)) = two_words x y
immediates_of (op.Control (control.CallRef x)) = decimal x ∷ []
immediates_of (op.Control (control.ReturnCall x)) = decimal x ∷ []
immediates_of (op.Control (control.ReturnCallIndirect x y)) = two_words x y
immediates_of (op.Control (control.ReturnCallRef x)) = decimal x ∷ []
immediates_of (op.Variable (variable.LocalGet x)) = decimal x ∷ []
immediates_of (op.Variable (variable.LocalSet x)) = decimal x ∷ []
immediates_of (op.Variable (variable.LocalTee x)) = decimal x ∷ []
immediates_of (op.Variable (variable.GlobalGet x)) = decimal x ∷ []
immediates_of (op.Variable (variable.GlobalSet x)) = decimal x ∷ []
immediates_of (op.Table (table_op.Get x)) = decimal x ∷ []
immediates_of (op.Table (table_op.Set x)) = decimal x ∷ []
immediates_of (op.Memory (memory.Size x)) = decimal x ∷ []
immediates_of (op.Memory (memory.Grow x)) = decimal x ∷ []
immediates_of (op.Reference (reference.Func x)) = decimal x ∷ []
immediates_of (op.Control (control.BrOnNull x)) = decimal x ∷ []
immediates_of (op.Control (control.BrOnNonNull x)) = decimal x ∷ []
immediates_of (op.Switching (switching.ContNew x)) = decimal x ∷ []
immediates_of (op.Switching (switching.ContBind x y)) = two_words x y
immediates_of (op.Switching (switching.Suspend x)) = decimal x ∷ []
immediates_of (op.Switching (switching.Switch x y)) = two_words x y
immediates_of (op.Memory (memory.Init x y)) = two_words x y
immediates_of (op.Memory (memory.DataDrop x)) = decimal x ∷ []
immediates_of (op.Memory (memory.Copy x y)) = two_words x y
immediates_of (op.Memory (memory.Fill x)) = decimal x ∷ []
immediates_of (op.Table (table_op.Init x y)) = two_words x y
immediates_of (op.Table (table_op.ElemDrop x)) = decimal x ∷ []
immediates_of (op.Table (table_op.Copy x y)) = two_words x y
immediates_of (op.Table (table_op.Grow x)) = decimal x ∷ []
immediates_of (op.Table (table_op.Size x)) = decimal x ∷ []
immediates_of (op.Table (table_op.Fill x)) = decimal x ∷ []
immediates_of (op.Memory (memory.Load o m)) = two_words m.align m.offset
immediates_of (op.Memory (memory.Store o m)) = two_words m.align m.offset
immediates_of (op.Numeric (numeric.I32Const z)) = signed_decimal z ∷ []
immediates_of (op.Numeric (numeric.I64Const z)) = signed_decimal z ∷ []
immediates_of (op.Reference (reference.Null h)) = heap_word h ∷ []
immediates_of (op.Parametric (parametric.SelectOf ts)) = map val_word ts
immediates_of (op.Control (control.BrTable ls l)) = map decimal (ls ++ l ∷ [])
immediates_of (op.Switching (switching.Resume t cs)) = decimal t ∷ map clause_word cs
immediates_of _ = []

abbrev pub immediates : Token → List Word
immediates (tok.Plain o) = immediates_of o
immediates (tok.Block k b) = block_word b ∷ []
immediates (tok.If b) = block_word b ∷ []
immediates tok.Else = []
immediates tok.End = []

-- ## What has a text

-- a text names no memory: a load or a store of a file is of its only one
abbrev pub ArgFits : MemArg → Type 0
ArgFits m = (m.align < 2 ^ 6) × (m.memory ≡ 0) × (m.offset < 2 ^ 64)

abbrev pub OpFits : Op → Type 0
OpFits (op.Control (control.Br x)) = Index32 x
OpFits (op.Control (control.BrIf x)) = Index32 x
OpFits (op.Control (control.Call x)) = Index32 x
OpFits (op.Control (control.CallIndirect x y)) = Index32 x × Index32 y
OpFits (op.Control (control.CallRef x)) = Index32 x
OpFits (op.Control (control.ReturnCall x)) = Index32 x
OpFits (op.Control (control.ReturnCallIndirect x y)) = Index32 x × Index32 y
OpFits (op.Control (control.ReturnCallRef x)) = Index32 x
OpFits (op.Variable (variable.LocalGet x)) = Index32 x
OpFits (op.Variable (variable.LocalSet x)) = Index32 x
OpFits (op.Variable (variable.LocalTee x)) = Index32 x
OpFits (op.Variable (variable.GlobalGet x)) = Index32 x
OpFits (op.Variable (variable.GlobalSet x)) = Index32 x
OpFits (op.Table (table_op.Get x)) = Index32 x
OpFits (op.Table (table_op.Set x)) = Index32 x
OpFits (op.Memory (memory.Size x)) = Index32 x
OpFits (op.Memory (memory.Grow x)) = Index32 x
OpFits (op.Reference (reference.Func x)) = Index32 x
OpFits (op.Control (control.BrOnNull x)) = Index32 x
OpFits (op.Control (control.BrOnNonNull x)) = Index32 x
OpFits (op.Switching (switching.ContNew x)) = Index32 x
OpFits (op.Switching (switching.ContBind x y)) = Index32 x × Index32 y
OpFits (op.Switching (switching.Suspend x)) = Index32 x
OpFits (op.Switching (switching.Switch x y)) = Index32 x × Index32 y
OpFits (op.Memory (memory.Init x y)) = Index32 x × Index32 y
OpFits (op.Memory (memory.DataDrop x)) = Index32 x
OpFits (op.Memory (memory.Copy x y)) = Index32 x × Index32 y
OpFits (op.Memory (memory.Fill x)) = Index32 x
OpFits (op.Table (table_op.Init x y)) = Index32 x × Index32 y
OpFits (op.Table (table_op.ElemDrop x)) = Index32 x
OpFits (op.Table (table_op.Copy x y)) = Index32 x × Index32 y
OpFits (op.Table (table_op.Grow x)) = Index32 x
OpFits (op.Table (table_op.Size x)) = Index32 x
OpFits (op.Table (table_op.Fill x)) = Index32 x
OpFits (op.Memory (memory.Load o m)) = ArgFits m
OpFits (op.Memory (memory.Store o m)) = ArgFits m
OpFits (op.Control (control.BrTable ls l)) = Each Index32 ls × Index32 l
OpFits (op.Parametric (parametric.SelectOf ts)) = Each ValFits ts
OpFits (op.Numeric (numeric.I32Const z)) = SignedFits 32 z
OpFits (op.Numeric (numeric.I64Const z)) = SignedFits 64 z
OpFits (op.Reference (reference.Null h)) = HeapFits h
OpFits (op.Switching (switching.Resume t cs)) = Index32 t × Each ClauseFits cs
OpFits _ = ⊤

abbrev pub TokenFits : Token → Type 0
TokenFits (tok.Plain o) = OpFits o
TokenFits (tok.Block k b) = BlockFits b
TokenFits (tok.If b) = BlockFits b
TokenFits tok.Else = ⊤
TokenFits tok.End = ⊤

-- ## Reading

abbrev pub row_in : List Row → Word → Option Row
row_in [] w = None
row_in (r ∷ rs) w = if bytes_eq w r.1 then Some r else row_in rs w

abbrev pub access_of : List Word → Option MemArg
access_of ws = option_map (λ p. record { align = p.0; memory = 0; offset = p.1 }) (two_of (number_of 6) (number_of 64) ws)

-- a continuation type, and clauses
abbrev pub handler_of : List Word → Option (ℕ × List Clause)
handler_of ws = do
  (w, ws) ← next ws
  t ← number_of 32 w
  option_map (λ cs. (t, cs)) (each_of clause_of ws)

abbrev pub form_of : Form → List Word → Option Token
form_of (Alone t) ws = ended t ws
form_of (Index f) ws = option_map f (one_of (number_of 32) ws)
form_of (Indices f) ws = option_map (λ p. f p.0 p.1) (two_of (number_of 32) (number_of 32) ws)
form_of (Access f) ws = option_map f (access_of ws)
form_of (Blocks f) ws = option_map f (one_of block_of ws)
form_of (Const32 f) ws = option_map f (one_of (signed_of 32) ws)
form_of (Const64 f) ws = option_map f (one_of (signed_of 64) ws)
form_of (Heap f) ws = option_map f (one_of heap_of ws)
form_of (Types f) ws = option_map f (each_of val_of ws)
form_of (Labels f) ws = option_map (λ p. f p.0 p.1) (labels_of ws)
form_of (Clauses f) ws = option_map (λ p. f p.0 p.1) (handler_of ws)

-- the token that a name and the words behind it are
unfoldable pub token_of : Word → List Word → Option Token
token_of w ws = do
  r ← row_in rows w
  form_of r.2 ws
