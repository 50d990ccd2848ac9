-- The instructions that scripts are compiled to are spelled by what is written of them.
use Rattle.std.proofs.Common.{◌≡◌, ℕ, pos, negsuc, ◌^◌, ◌<◌, ◌≤◌, ◌⊎◌, inl, inr, Bool, true, false, List, [], ◌∷◌, length, refl, sym, subst, arith}
use Rattle.std.specs.Prelude.{⊤, nat_eq}
use Rattle.std.proofs.lemmas.Bool.Decides.{eqb_tells}
use Rattle.w_leb.specs.Formats.{number, ◌⇒◌}
use Rattle.w_leb.specs.Number.{shortest, Signed}
use Rattle.w_leb.specs.ShortestLaws.{shortest_spells}
use Rattle.w_leb.specs.ShortestSignedLaws.{signed_spells}
use Rattle.w_leb.specs.CanonicalLaws.{vec_written}
use Rattle.w_leb.specs.CanonicalTableLaws.{has_none, by_default}
use Rattle.w_leb.specs.IndexLaws.{natural_begins}
use Rattle.w_leb.specs.NumberLaws.{signed_solid}
use Rattle.w_types.specs.declared.types.HeapType.TheVariants as heap
use Rattle.w_types.specs.declared.types.ValType.{ValType}
use Rattle.w_types.specs.declared.types.ValType.TheVariants as val
use Rattle.w_syntax.specs.declared.numeric.IntType.TheVariants as int
use Rattle.w_syntax.specs.declared.numeric.Binop.TheVariants as binop
use Rattle.w_syntax.specs.declared.numeric.Relop.TheVariants as relop
use Rattle.w_syntax.specs.declared.instructions.Clause.{Clause}
use Rattle.w_syntax.specs.declared.instructions.Clause.TheVariants as clause
use Rattle.w_syntax.specs.declared.numeric.NumericOp.TheVariants as numeric
use Rattle.w_syntax.specs.declared.numeric.Cvtop.TheVariants as cvtop
use Rattle.w_syntax.specs.declared.instructions.ControlOp.TheVariants as control
use Rattle.w_syntax.specs.declared.instructions.BlockKind.{BlockKind}
use Rattle.w_syntax.specs.declared.instructions.BlockKind.TheVariants as kind
use Rattle.w_syntax.specs.declared.instructions.BlockType.{BlockType}
use Rattle.w_syntax.specs.declared.instructions.BlockType.TheVariants as block
use Rattle.w_syntax.specs.declared.instructions.Token.TheVariants as tok
use Rattle.w_syntax.specs.Types.{index33, heaptypes, heaptype, nullable_to, non_null_to, valtype}
use Rattle.w_syntax.specs.Tokens.{arithmetic, comparison, numeric_op, plain, other, instruction, hdl, blocktypes, blocktype, token}
use Rattle.w_syntax.specs.Fields.{run}
use Rattle.w_encode.specs.TypesWritten.{index_written, valtype_written}
use Rattle.w_encode.specs.InstructionsWritten.{clause_written, blocktype_written}
use Rattle.w_encode.specs.Canon.{run_written}
use Rattle.s_syntax.specs.declared.operators.Comparison.{Comparison}
use Rattle.s_syntax.specs.declared.operators.Arithmetic.{Arithmetic}
use Rattle.s_syntax.specs.declared.operators.Comparison.TheVariants.{Equal, NotEqual, Less, AtMost, Greater, AtLeast}
use Rattle.s_syntax.specs.declared.operators.Arithmetic.TheVariants.{Add, Subtract, Multiply, Divide, Remainder}
use Rattle.s_syntax.specs.declared.script.VariableType.{VariableType}
use Rattle.s_syntax.specs.declared.script.VariableType.TheVariants.{Int, Resumption, Coroutine}
use Rattle.s_index.specs.Types.{resumption_type, coroutine_type, to_continuation, val_type}
use Rattle.s_code.specs.Instructions.{constant, constant_32, is_zero, is_zero_32, extend, wrap, binary, compare, unreachable, nop, branch, branch_if, leave, call, return_call, dropped, select, local_get, local_set, table_get, table_set, null, non_null, function_reference, new_continuation, bind_continuation, suspend, resume, switch, binop_of, relop_of}
use Rattle.w_encode.proofs.SpelledCode.{list_spells}
use Rattle.w_encode.specs.Spelled.{EachSpelled, TokenSpelled}

-- ## Numbers and lists

-- an index is spelled by the shortest spelling
pub u32_spelled : (x : ℕ) → x < 2 ^ 32 → (number 32).Spells (shortest x) x
u32_spelled x h = shortest_spells 9 32 x (omega arith) h

-- ## Numeric instructions

pub constant_spelled : (n : ℕ) → n ≤ 9223372036854775807 → TokenSpelled (tok.Plain (constant (pos n)))
unfolding token instruction other plain numeric_op
constant_spelled n h = (constant (pos n), (numeric.I64Const (pos n), (pos n, signed_spells 9 64 (pos n) (omega arith) (omega (arith, h)), refl), refl), refl)

pub minus_one_spelled : TokenSpelled (tok.Plain (constant (negsuc 0)))
unfolding token instruction other plain numeric_op
minus_one_spelled = (constant (negsuc 0), (numeric.I64Const (negsuc 0), (negsuc 0, signed_spells 9 64 (negsuc 0) (omega arith) (omega arith), refl), refl), refl)

pub is_zero_spelled : TokenSpelled (tok.Plain is_zero)
unfolding token instruction other plain numeric_op
is_zero_spelled = (is_zero, (numeric.Eqz int.I64, (refl, refl), refl), refl)

pub is_zero_32_spelled : TokenSpelled (tok.Plain is_zero_32)
unfolding token instruction other plain numeric_op
is_zero_32_spelled = (is_zero_32, (numeric.Eqz int.I32, (refl, refl), refl), refl)

pub extend_spelled : TokenSpelled (tok.Plain extend)
unfolding token instruction other plain numeric_op
extend_spelled = (extend, (numeric.Convert cvtop.I64ExtendI32U, (refl, refl), refl), refl)

pub binary_spelled : (o : Arithmetic) → TokenSpelled (tok.Plain (binary (binop_of o)))
unfolding token instruction other plain numeric_op comparison arithmetic
binary_spelled Add = (binary (binop_of Add), (numeric.Binary int.I64 (binop_of Add), (refl, refl), refl), refl)
binary_spelled Subtract = (binary (binop_of Subtract), (numeric.Binary int.I64 (binop_of Subtract), (refl, refl), refl), refl)
binary_spelled Multiply = (binary (binop_of Multiply), (numeric.Binary int.I64 (binop_of Multiply), (refl, refl), refl), refl)
binary_spelled Divide = (binary (binop_of Divide), (numeric.Binary int.I64 (binop_of Divide), (refl, refl), refl), refl)
binary_spelled Remainder = (binary (binop_of Remainder), (numeric.Binary int.I64 (binop_of Remainder), (refl, refl), refl), refl)

pub times_spelled : TokenSpelled (tok.Plain (binary binop.Mul))
times_spelled = binary_spelled Multiply

pub compare_spelled : (o : Comparison) → TokenSpelled (tok.Plain (compare (relop_of o)))
unfolding token instruction other plain numeric_op comparison
compare_spelled Equal = (compare (relop_of Equal), (numeric.Compare int.I64 (relop_of Equal), (refl, refl), refl), refl)
compare_spelled NotEqual = (compare (relop_of NotEqual), (numeric.Compare int.I64 (relop_of NotEqual), (refl, refl), refl), refl)
compare_spelled Less = (compare (relop_of Less), (numeric.Compare int.I64 (relop_of Less), (refl, refl), refl), refl)
compare_spelled AtMost = (compare (relop_of AtMost), (numeric.Compare int.I64 (relop_of AtMost), (refl, refl), refl), refl)
compare_spelled Greater = (compare (relop_of Greater), (numeric.Compare int.I64 (relop_of Greater), (refl, refl), refl), refl)
compare_spelled AtLeast = (compare (relop_of AtLeast), (numeric.Compare int.I64 (relop_of AtLeast), (refl, refl), refl), refl)

-- 64 bits below others, as numbers that aren't negative
pub below_spelled : TokenSpelled (tok.Plain (compare relop.LtU))
unfolding token instruction other plain numeric_op comparison
below_spelled = (compare relop.LtU, (numeric.Compare int.I64 relop.LtU, (refl, refl), refl), refl)

pub wrap_spelled : TokenSpelled (tok.Plain wrap)
unfolding token instruction other plain numeric_op
wrap_spelled = (wrap, (numeric.Convert cvtop.I32WrapI64, (refl, refl), refl), refl)

pub minus_one_32_spelled : TokenSpelled (tok.Plain (constant_32 (negsuc 0)))
unfolding token instruction other plain numeric_op
minus_one_32_spelled = (constant_32 (negsuc 0), (numeric.I32Const (negsuc 0), (negsuc 0, signed_spells 9 32 (negsuc 0) (omega arith) (omega arith), refl), refl), refl)

-- ## Control instructions that hold no others

pub unreachable_spelled : TokenSpelled (tok.Plain unreachable)
unfolding token instruction
unreachable_spelled = (unreachable, (control.Unreachable, (refl, refl), refl), refl)

pub nop_spelled : TokenSpelled (tok.Plain nop)
unfolding token instruction
nop_spelled = (nop, (control.Nop, (refl, refl), refl), refl)

pub leave_spelled : TokenSpelled (tok.Plain leave)
unfolding token instruction
leave_spelled = (leave, (control.Return, (refl, refl), refl), refl)

pub branch_spelled : (x : ℕ) → x < 2 ^ 32 → TokenSpelled (tok.Plain (branch x))
unfolding token instruction
branch_spelled x h = (branch x, (control.Br x, (x, u32_spelled x h, refl), refl), refl)

pub branch_if_spelled : (x : ℕ) → x < 2 ^ 32 → TokenSpelled (tok.Plain (branch_if x))
unfolding token instruction
branch_if_spelled x h = (branch_if x, (control.BrIf x, (x, u32_spelled x h, refl), refl), refl)

pub call_spelled : (x : ℕ) → x < 2 ^ 32 → TokenSpelled (tok.Plain (call x))
unfolding token instruction
call_spelled x h = (call x, (control.Call x, (x, u32_spelled x h, refl), refl), refl)

pub return_call_spelled : (x : ℕ) → x < 2 ^ 32 → TokenSpelled (tok.Plain (return_call x))
unfolding token instruction
return_call_spelled x h = (return_call x, (control.ReturnCall x, (x, u32_spelled x h, refl), refl), refl)

-- ## Locals and references

pub dropped_spelled : TokenSpelled (tok.Plain dropped)
unfolding token instruction other
dropped_spelled = (dropped, (refl, refl), refl)

pub select_spelled : TokenSpelled (tok.Plain select)
unfolding token instruction other
select_spelled = (select, (refl, refl), refl)

pub local_get_spelled : (x : ℕ) → x < 2 ^ 32 → TokenSpelled (tok.Plain (local_get x))
unfolding token instruction other
local_get_spelled x h = (local_get x, (x, u32_spelled x h, refl), refl)

pub local_set_spelled : (x : ℕ) → x < 2 ^ 32 → TokenSpelled (tok.Plain (local_set x))
unfolding token instruction other
local_set_spelled x h = (local_set x, (x, u32_spelled x h, refl), refl)

pub table_get_spelled : (x : ℕ) → x < 2 ^ 32 → TokenSpelled (tok.Plain (table_get x))
unfolding token instruction other
table_get_spelled x h = (table_get x, (x, u32_spelled x h, refl), refl)

pub table_set_spelled : (x : ℕ) → x < 2 ^ 32 → TokenSpelled (tok.Plain (table_set x))
unfolding token instruction other
table_set_spelled x h = (table_set x, (x, u32_spelled x h, refl), refl)

pub non_null_spelled : TokenSpelled (tok.Plain non_null)
unfolding token instruction other
non_null_spelled = (non_null, (refl, refl), refl)

pub reference_spelled : (x : ℕ) → x < 2 ^ 32 → TokenSpelled (tok.Plain (function_reference x))
unfolding token instruction other
reference_spelled x h = (function_reference x, (x, u32_spelled x h, refl), refl)

-- ## Stack switching

pub new_continuation_spelled : (x : ℕ) → x < 2 ^ 32 → TokenSpelled (tok.Plain (new_continuation x))
unfolding token instruction other
new_continuation_spelled x h = (new_continuation x, (x, u32_spelled x h, refl), refl)

pub suspend_spelled : (x : ℕ) → x < 2 ^ 32 → TokenSpelled (tok.Plain (suspend x))
unfolding token instruction other
suspend_spelled x h = (suspend x, (x, u32_spelled x h, refl), refl)

pub bind_continuation_spelled : (x y : ℕ) → x < 2 ^ 32 → y < 2 ^ 32 → TokenSpelled (tok.Plain (bind_continuation x y))
unfolding token instruction other
bind_continuation_spelled x y h k = (bind_continuation x y, ((x, y), (shortest x, shortest y, refl, u32_spelled x h, u32_spelled y k), refl), refl)

pub switch_spelled : (x y : ℕ) → x < 2 ^ 32 → y < 2 ^ 32 → TokenSpelled (tok.Plain (switch x y))
unfolding token instruction other
switch_spelled x y h k = (switch x y, ((x, y), (shortest x, shortest y, refl, u32_spelled x h, u32_spelled y k), refl), refl)

-- the indices of a handler's clause
abbrev pub ClauseSmall : Clause → Type 0
ClauseSmall (clause.Label t l) = (t < 2 ^ 32) × (l < 2 ^ 32)
ClauseSmall (clause.Switch t) = t < 2 ^ 32

abbrev pub ClausesSmall : List Clause → Type 0
ClausesSmall [] = ⊤
ClausesSmall (c ∷ cs) = ClauseSmall c × ClausesSmall cs

pub clause_spelled : (c : Clause) → ClauseSmall c → hdl.Spells (clause_written c) c
unfolding hdl
clause_spelled (clause.Label t l) h = ((t, l), (shortest t, shortest l, refl, u32_spelled t h.0, u32_spelled l h.1), refl)
clause_spelled (clause.Switch t) h = (t, u32_spelled t h, refl)

pub clauses_spelled : (cs : List Clause) → ClausesSmall cs → EachSpelled hdl clause_written cs
clauses_spelled [] h = tt
clauses_spelled (c ∷ cs) h = (clause_spelled c h.0, clauses_spelled cs h.1)

-- with the clauses of its handlers
pub resume_spelled : (x : ℕ) (hs : List Clause) → x < 2 ^ 32 → length hs < 2 ^ 32 → ClausesSmall hs → TokenSpelled (tok.Plain (resume x hs))
unfolding token instruction other
resume_spelled x hs h few small =
    (resume x hs, ((x, hs), (shortest x, vec_written clause_written hs, refl, u32_spelled x h, list_spells hdl clause_written hs (few, clauses_spelled hs small)), refl), refl)

-- ## Value types

-- bytes that indices of types begin with
abbrev BeginsIndex : ℕ → Type 0
BeginsIndex k = (k < 64) ⊎ (128 ≤ k)

-- no entry whose byte lies between has such a byte
no_entry : (k j : ℕ) → BeginsIndex k → 64 ≤ j → j < 128 → nat_eq k j ≡ false
no_entry k j (inl h) low high = elim (eqb_tells k j) [ inl t ↦ absurd (omega (arith, t.1, h, low)) | inr t ↦ t.0 ]
no_entry k j (inr h) low high = elim (eqb_tells k j) [ inl t ↦ absurd (omega (arith, t.1, h, high)) | inr t ↦ t.0 ]

no_heaptype : (k : ℕ) → BeginsIndex k → has_none heaptypes k ≡ true
no_heaptype k h =
    rw (no_entry k 0x70 h (omega arith) (omega arith), no_entry k 0x73 h (omega arith) (omega arith), no_entry k 0x68 h (omega arith) (omega arith), no_entry k 0x75 h (omega arith) (omega arith)) refl

no_blocktype : (k : ℕ) → BeginsIndex k → has_none blocktypes k ≡ true
no_blocktype k h =
    rw (
      no_entry k 0x40 h (omega arith) (omega arith),
      no_entry k 0x7F h (omega arith) (omega arith),
      no_entry k 0x7E h (omega arith) (omega arith),
      no_entry k 0x63 h (omega arith) (omega arith),
      no_entry k 0x64 h (omega arith) (omega arith),
      no_entry k 0x70 h (omega arith) (omega arith),
      no_entry k 0x73 h (omega arith) (omega arith),
      no_entry k 0x68 h (omega arith) (omega arith),
      no_entry k 0x75 h (omega arith) (omega arith),
    ) refl

-- the index of a type, as a signed number
pub signed_index_spelled : (x : ℕ) → x < 2 ^ 32 → Signed 33 (index_written x) (pos x)
signed_index_spelled x h = signed_spells 9 33 (pos x) (omega arith) h

-- what spells the index spells the type of that index
heap_index : (l : List ℕ) (x : ℕ) → Signed 33 l (pos x) → heaptype.Spells l (heap.Index x)
unfolding heaptype index33
heap_index [] x h = absurd (signed_solid 33 (pos x) h)
heap_index (k ∷ b) x h = by_default heaptypes (index33 ⇒ heap.Index).Spells k b (heap.Index x) (no_heaptype k (natural_begins 33 k b x h)) (x, (pos x, (h, refl), refl), refl)

pub heap_index_spelled : (x : ℕ) → x < 2 ^ 32 → heaptype.Spells (index_written x) (heap.Index x)
heap_index_spelled x h = heap_index (index_written x) x (signed_index_spelled x h)

-- null, for references to the type of an index
pub null_spelled : (x : ℕ) → x < 2 ^ 32 → TokenSpelled (tok.Plain (null x))
unfolding token instruction other
null_spelled x h = (null x, (heap.Index x, heap_index_spelled x h, refl), refl)

-- a reference to continuations
pub continuation_type_spelled : (or_null : Bool) (x : ℕ) → x < 2 ^ 32 → valtype.Spells (valtype_written (to_continuation or_null x)) (to_continuation or_null x)
unfolding valtype
continuation_type_spelled true x h = (nullable_to (heap.Index x), (heap.Index x, heap_index_spelled x h, refl), refl)
continuation_type_spelled false x h = (non_null_to (heap.Index x), (heap.Index x, heap_index_spelled x h, refl), refl)

pub number_type_spelled : valtype.Spells (valtype_written val.I64) val.I64
unfolding valtype
number_type_spelled = (refl, refl)

-- the type of a variable
pub val_type_spelled : (t : VariableType) → valtype.Spells (valtype_written (val_type t)) (val_type t)
val_type_spelled Int = number_type_spelled
val_type_spelled (Resumption h) = continuation_type_spelled true resumption_type (omega arith)
val_type_spelled Coroutine = continuation_type_spelled true coroutine_type (omega arith)

pub run_spelled : (n : ℕ) (t : VariableType) → n < 2 ^ 32 → run.Spells (run_written (record { count = n; kind = val_type t })) (record { count = n; kind = val_type t })
unfolding run
run_spelled n t h = ((n, val_type t), (shortest n, valtype_written (val_type t), refl, u32_spelled n h, val_type_spelled t), refl)

-- ## Blocks

-- without a type, of a number, or of a type by its index
abbrev pub BlockSmall : BlockType → Type 0
BlockSmall block.Empty = ⊤
BlockSmall (block.Value t) = t ≡ val.I64
BlockSmall (block.Index x) = x < 2 ^ 32

number_block_spelled : blocktype.Spells (blocktype_written (block.Value val.I64)) (block.Value val.I64)
unfolding blocktype
number_block_spelled = (val.I64, (refl, refl), refl)

-- a block of a type by its index
block_index : (l : List ℕ) (x : ℕ) → Signed 33 l (pos x) → blocktype.Spells l (block.Index x)
unfolding blocktype index33
block_index [] x h = absurd (signed_solid 33 (pos x) h)
block_index (k ∷ b) x h = by_default blocktypes (index33 ⇒ block.Index).Spells k b (block.Index x) (no_blocktype k (natural_begins 33 k b x h)) (x, (pos x, (h, refl), refl), refl)

pub blocktype_spelled : (b : BlockType) → BlockSmall b → blocktype.Spells (blocktype_written b) b
unfolding blocktype
blocktype_spelled block.Empty h = (refl, refl)
blocktype_spelled (block.Value t) h = subst (λ (u : ValType). blocktype.Spells (blocktype_written (block.Value u)) (block.Value u)) (sym h) number_block_spelled
blocktype_spelled (block.Index x) h = block_index (index_written x) x (signed_index_spelled x h)

pub block_spelled : (k : BlockKind) (b : BlockType) → BlockSmall b → TokenSpelled (tok.Block k b)
unfolding token
block_spelled kind.Block b h = (b, blocktype_spelled b h, refl)
block_spelled kind.Loop b h = (b, blocktype_spelled b h, refl)

pub if_spelled : (b : BlockType) → BlockSmall b → TokenSpelled (tok.If b)
unfolding token
if_spelled b h = (b, blocktype_spelled b h, refl)
