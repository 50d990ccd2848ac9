-- The table of names as the code keeps it.
use Rattle.std.specs.Prelude.{◌≡◌, if◌then◌else◌, ℕ, ◌/◌, ◌%◌, nat_eq, nat_lt, List, [], ◌∷◌, ◌++◌, map, Option, Some, ℤ}
use Rattle.w_leb.specs.Formats.{number}
use Rattle.w_types.specs.declared.types.HeapType.{HeapType}
use Rattle.w_types.specs.declared.types.ValType.{ValType}
use Rattle.w_syntax.specs.declared.numeric.NumericOp.TheVariants as numeric
use Rattle.w_syntax.specs.declared.memory_instructions.MemArg.{MemArg}
use Rattle.w_syntax.specs.declared.instructions.Clause.{Clause}
use Rattle.w_syntax.specs.declared.instructions.ControlOp.TheVariants as control
use Rattle.w_syntax.specs.declared.instructions.ParametricOp.TheVariants as parametric
use Rattle.w_syntax.specs.declared.instructions.ReferenceOp.TheVariants as reference
use Rattle.w_syntax.specs.declared.instructions.SwitchingOp.TheVariants as switching
use Rattle.w_syntax.specs.declared.instructions.Op.TheVariants as op
use Rattle.w_syntax.specs.declared.instructions.BlockKind.TheVariants as kind_of_block
use Rattle.w_syntax.specs.declared.instructions.BlockType.{BlockType}
use Rattle.w_syntax.specs.declared.instructions.Token.{Token}
use Rattle.w_syntax.specs.declared.instructions.Token.TheVariants as tok
use Rattle.w_syntax.specs.Tokens.{token, memarg}
use Rattle.w_words.specs.Words.{Word}
use Rattle.w_lines.specs.declared.names.Immediates.{Immediates}
use Rattle.w_lines.specs.declared.names.Immediates.TheVariants as kind
use Rattle.w_lines.specs.declared.names.NameRow.{NameRow}
use Rattle.w_lines.specs.Instructions.{Form, Alone, Index, Indices, Access, Const32, Const64, Heap, Types, Labels, Clauses, Blocks, Row, rows, row_in, form_of}

-- what stands behind a name
abbrev pub kind_of : Form → Immediates
kind_of (Alone t) = kind.None
kind_of (Index f) = kind.Index
kind_of (Indices f) = kind.Indices
kind_of (Access f) = kind.Access
kind_of (Const32 f) = kind.Const32
kind_of (Const64 f) = kind.Const64
kind_of (Heap f) = kind.Heap
kind_of (Types f) = kind.Types
kind_of (Labels f) = kind.Labels
kind_of (Clauses f) = kind.Clauses
kind_of (Blocks f) = kind.Block

abbrev pub names_of : List Row → List Word
names_of rs = map (λ r. r.1) rs

abbrev pub codes_of : List Row → List ℕ
codes_of rs = map (λ r. r.0) rs

abbrev pub kinds_of : List Row → List Immediates
kinds_of rs = map (λ r. kind_of r.2) rs

-- what the table says of a name
pub record IsRow (name : Word) (found : NameRow) : Type 0 where
  pub row : Row
  pub here : row_in rows name ≡ Some row
  pub opcode : row.0 ≡ found.opcode
  pub immediates : kind_of row.2 ≡ found.immediates

-- ## Bytes

-- the opcode as bytes
abbrev pub opcode_bytes : ℕ → List ℕ
opcode_bytes k = if nat_lt k 256 then k ∷ [] else k / 256 ∷ k % 256 ∷ []

abbrev pub block_token : ℕ → BlockType → Token
block_token k b = if nat_eq k 2 then tok.Block kind_of_block.Block b else if nat_eq k 3 then tok.Block kind_of_block.Loop b else tok.If b

-- what an opcode makes of what is read behind it; a form that only one opcode has makes one instruction
abbrev pub FormReads : ℕ → Form → Type 0
FormReads k (Alone t) = token.read (opcode_bytes k) ≡ Some (t, [])
FormReads k (Index f) = (bs rest : List ℕ) (x : ℕ) → (number 32).read bs ≡ Some (x, rest) → token.read (opcode_bytes k ++ bs) ≡ Some (f x, rest)
FormReads k (Indices f) = (bs cs rest : List ℕ) (x y : ℕ) → (number 32).read bs ≡ Some (x, cs) → (number 32).read cs ≡ Some (y, rest) → token.read (opcode_bytes k ++ bs) ≡ Some (f x y, rest)
FormReads k (Access f) = (bs rest : List ℕ) (m : MemArg) → memarg.read bs ≡ Some (m, rest) → token.read (opcode_bytes k ++ bs) ≡ Some (f m, rest)
FormReads k (Const32 f) = (z : ℤ) → f z ≡ tok.Plain (op.Numeric (numeric.I32Const z))
FormReads k (Const64 f) = (z : ℤ) → f z ≡ tok.Plain (op.Numeric (numeric.I64Const z))
FormReads k (Heap f) = (h : HeapType) → f h ≡ tok.Plain (op.Reference (reference.Null h))
FormReads k (Types f) = (ts : List ValType) → f ts ≡ tok.Plain (op.Parametric (parametric.SelectOf ts))
FormReads k (Labels f) = (ls : List ℕ) (l : ℕ) → f ls l ≡ tok.Plain (op.Control (control.BrTable ls l))
FormReads k (Clauses f) = (t : ℕ) (cs : List Clause) → f t cs ≡ tok.Plain (op.Switching (switching.Resume t cs))
FormReads k (Blocks f) = (b : BlockType) → f b ≡ block_token k b

-- what words behind a name are, where the name has this opcode and this form
abbrev pub Makes : ℕ → Form → List Word → Option Token → Type 0
Makes k f ws o = FormReads k f → o ≡ form_of f ws

-- what bytes spell, where they spell one token and nothing more
abbrev pub ReadsAs : List ℕ → Option Token → Type 0
ReadsAs bs o = (t : Token) → token.read bs ≡ Some (t, []) → o ≡ Some t
