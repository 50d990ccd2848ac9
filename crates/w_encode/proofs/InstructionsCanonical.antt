-- The canonical spelling of an instruction spells it, and is at most twice as long as any.
use Rattle.std.proofs.Common.{◌≡◌, ℕ, ◌^◌, ◌<◌, List, [], ◌∷◌, ◌++◌, length, refl, sym, ap, subst, arith}
use Rattle.std.specs.Prelude.{nat_lt, nat_eq}
use Rattle.w_leb.specs.Format.{Format, Grammar, ByFirst, ByNumber, Picked, Never}
use Rattle.w_leb.specs.Formats.{number, signed_number, vec, constant, ◌⊗◌, ◌⇒◌, such_that}
use Rattle.w_leb.specs.Number.{shortest, shortest_in, shortest_signed, Unsigned}
use Rattle.w_leb.specs.CanonicalLaws.{IsCanonical, canon_number, canon_signed, canon_pair, canon_image, canon_such, canon_vec, each_short, each_again, vec_written}
use Rattle.w_leb.specs.CanonicalTableLaws.{◌&◌, IsWritten, IsWrittenBy, EntriesWritten, BeginsIn, keys, apart_from, begins_table, begins_table_or, canon_table, canon_table_or, canon_choice, of_constant, of_image, of_number}
use Rattle.w_types.specs.declared.types.ValType.{ValType}
use Rattle.w_syntax.specs.declared.numeric.IntType.TheVariants as int
use Rattle.w_syntax.specs.declared.numeric.Unop.TheVariants as unary
use Rattle.w_syntax.specs.declared.numeric.Binop.TheVariants as binary
use Rattle.w_syntax.specs.declared.numeric.Relop.TheVariants as compare
use Rattle.w_syntax.specs.declared.numeric.Cvtop.TheVariants as convert
use Rattle.w_syntax.specs.declared.numeric.NumericOp.TheVariants as numeric
use Rattle.w_syntax.specs.declared.memory_instructions.LoadOp.TheVariants as load
use Rattle.w_syntax.specs.declared.memory_instructions.StoreOp.TheVariants as store
use Rattle.w_syntax.specs.declared.memory_instructions.MemoryOp.{MemoryOp}
use Rattle.w_syntax.specs.declared.memory_instructions.MemoryOp.TheVariants as memory
use Rattle.w_syntax.specs.declared.instructions.ControlOp.{ControlOp}
use Rattle.w_syntax.specs.declared.instructions.ControlOp.TheVariants as control
use Rattle.w_syntax.specs.declared.instructions.ParametricOp.TheVariants as parametric
use Rattle.w_syntax.specs.declared.instructions.VariableOp.TheVariants as variable
use Rattle.w_syntax.specs.declared.instructions.TableOp.TheVariants as table_op
use Rattle.w_syntax.specs.declared.instructions.ReferenceOp.TheVariants as reference
use Rattle.w_syntax.specs.declared.instructions.Clause.TheVariants as clause
use Rattle.w_syntax.specs.declared.instructions.SwitchingOp.TheVariants as switching
use Rattle.w_syntax.specs.declared.instructions.Op.{Op}
use Rattle.w_syntax.specs.declared.instructions.Op.TheVariants as op
use Rattle.w_syntax.specs.declared.instructions.BlockKind.TheVariants as kind
use Rattle.w_syntax.specs.declared.instructions.BlockType.TheVariants as block
use Rattle.w_syntax.specs.declared.instructions.Token.{Token}
use Rattle.w_syntax.specs.declared.instructions.Token.TheVariants as tok
use Rattle.w_syntax.specs.Types.{entries_of, valtypes, valtype, heaptype, index33, index33_solid}
use Rattle.w_syntax.specs.Tokens.{arithmetics, comparisons, numerics, bulks, clauses, others, blocktypes, tokens_by_byte, arithmetic, arithmetic_solid, comparison, comparison_solid, numeric_op, numeric_solid, memarg, accesses, bulk, controls, hdl, plain, plain_solid, other, other_solid, instruction, instruction_solid, blocktype, token}
use Rattle.w_syntax.specs.Expr.{tokens, Expr}
use Rattle.w_syntax.specs.Fields.{expr}
use Rattle.w_encode.specs.TypesWritten.{index_written, heaptype_written, valtype_written}
use Rattle.w_encode.specs.InstructionsWritten.{numeric_written, memarg_written, two_written, memory_written, control_written, clause_written, op_written, blocktype_written, token_written, expr_written}
use Rattle.w_encode.proofs.Cases.{in_either}
use Rattle.w_encode.proofs.TypesCanonical.{canon_index, canon_heaptype, canon_valtype, valtypes_written, not_an_index, spelled_behind, entries_written}

-- ## Numeric instructions

canon_arithmetic : IsCanonical arithmetic numeric_written
unfolding arithmetic
canon_arithmetic = canon_table arithmetics numeric_written
    (of_constant (numeric.Unary int.I32 unary.Clz) (ByFirst arithmetics Never) numeric_written (omega arith) (refl, refl)
    & of_constant (numeric.Unary int.I32 unary.Ctz) (ByFirst arithmetics Never) numeric_written (omega arith) (refl, refl)
    & of_constant (numeric.Unary int.I32 unary.Popcnt) (ByFirst arithmetics Never) numeric_written (omega arith) (refl, refl)
    & of_constant (numeric.Binary int.I32 binary.Add) (ByFirst arithmetics Never) numeric_written (omega arith) (refl, refl)
    & of_constant (numeric.Binary int.I32 binary.Sub) (ByFirst arithmetics Never) numeric_written (omega arith) (refl, refl)
    & of_constant (numeric.Binary int.I32 binary.Mul) (ByFirst arithmetics Never) numeric_written (omega arith) (refl, refl)
    & of_constant (numeric.Binary int.I32 binary.DivS) (ByFirst arithmetics Never) numeric_written (omega arith) (refl, refl)
    & of_constant (numeric.Binary int.I32 binary.DivU) (ByFirst arithmetics Never) numeric_written (omega arith) (refl, refl)
    & of_constant (numeric.Binary int.I32 binary.RemS) (ByFirst arithmetics Never) numeric_written (omega arith) (refl, refl)
    & of_constant (numeric.Binary int.I32 binary.RemU) (ByFirst arithmetics Never) numeric_written (omega arith) (refl, refl)
    & of_constant (numeric.Binary int.I32 binary.And) (ByFirst arithmetics Never) numeric_written (omega arith) (refl, refl)
    & of_constant (numeric.Binary int.I32 binary.Or) (ByFirst arithmetics Never) numeric_written (omega arith) (refl, refl)
    & of_constant (numeric.Binary int.I32 binary.Xor) (ByFirst arithmetics Never) numeric_written (omega arith) (refl, refl)
    & of_constant (numeric.Binary int.I32 binary.Shl) (ByFirst arithmetics Never) numeric_written (omega arith) (refl, refl)
    & of_constant (numeric.Binary int.I32 binary.ShrS) (ByFirst arithmetics Never) numeric_written (omega arith) (refl, refl)
    & of_constant (numeric.Binary int.I32 binary.ShrU) (ByFirst arithmetics Never) numeric_written (omega arith) (refl, refl)
    & of_constant (numeric.Binary int.I32 binary.Rotl) (ByFirst arithmetics Never) numeric_written (omega arith) (refl, refl)
    & of_constant (numeric.Binary int.I32 binary.Rotr) (ByFirst arithmetics Never) numeric_written (omega arith) (refl, refl)
    & of_constant (numeric.Unary int.I64 unary.Clz) (ByFirst arithmetics Never) numeric_written (omega arith) (refl, refl)
    & of_constant (numeric.Unary int.I64 unary.Ctz) (ByFirst arithmetics Never) numeric_written (omega arith) (refl, refl)
    & of_constant (numeric.Unary int.I64 unary.Popcnt) (ByFirst arithmetics Never) numeric_written (omega arith) (refl, refl)
    & of_constant (numeric.Binary int.I64 binary.Add) (ByFirst arithmetics Never) numeric_written (omega arith) (refl, refl)
    & of_constant (numeric.Binary int.I64 binary.Sub) (ByFirst arithmetics Never) numeric_written (omega arith) (refl, refl)
    & of_constant (numeric.Binary int.I64 binary.Mul) (ByFirst arithmetics Never) numeric_written (omega arith) (refl, refl)
    & of_constant (numeric.Binary int.I64 binary.DivS) (ByFirst arithmetics Never) numeric_written (omega arith) (refl, refl)
    & of_constant (numeric.Binary int.I64 binary.DivU) (ByFirst arithmetics Never) numeric_written (omega arith) (refl, refl)
    & of_constant (numeric.Binary int.I64 binary.RemS) (ByFirst arithmetics Never) numeric_written (omega arith) (refl, refl)
    & of_constant (numeric.Binary int.I64 binary.RemU) (ByFirst arithmetics Never) numeric_written (omega arith) (refl, refl)
    & of_constant (numeric.Binary int.I64 binary.And) (ByFirst arithmetics Never) numeric_written (omega arith) (refl, refl)
    & of_constant (numeric.Binary int.I64 binary.Or) (ByFirst arithmetics Never) numeric_written (omega arith) (refl, refl)
    & of_constant (numeric.Binary int.I64 binary.Xor) (ByFirst arithmetics Never) numeric_written (omega arith) (refl, refl)
    & of_constant (numeric.Binary int.I64 binary.Shl) (ByFirst arithmetics Never) numeric_written (omega arith) (refl, refl)
    & of_constant (numeric.Binary int.I64 binary.ShrS) (ByFirst arithmetics Never) numeric_written (omega arith) (refl, refl)
    & of_constant (numeric.Binary int.I64 binary.ShrU) (ByFirst arithmetics Never) numeric_written (omega arith) (refl, refl)
    & of_constant (numeric.Binary int.I64 binary.Rotl) (ByFirst arithmetics Never) numeric_written (omega arith) (refl, refl)
    & of_constant (numeric.Binary int.I64 binary.Rotr) (ByFirst arithmetics Never) numeric_written (omega arith) (refl, refl)
    & tt)

arithmetic_begins : BeginsIn (keys arithmetics ++ []) arithmetic.Spells
unfolding arithmetic
arithmetic_begins k b x h = begins_table arithmetics k b x h

canon_comparison : IsCanonical comparison numeric_written
unfolding comparison
canon_comparison = canon_table_or comparisons arithmetic arithmetic_solid numeric_written canon_arithmetic (λ k b x h. apart_from (keys arithmetics ++ []) comparisons refl k (arithmetic_begins k b x h))
    (of_constant (numeric.Compare int.I32 compare.Eq) (ByFirst comparisons arithmetic.Spells) numeric_written (omega arith) (refl, refl)
    & of_constant (numeric.Compare int.I32 compare.Ne) (ByFirst comparisons arithmetic.Spells) numeric_written (omega arith) (refl, refl)
    & of_constant (numeric.Compare int.I32 compare.LtS) (ByFirst comparisons arithmetic.Spells) numeric_written (omega arith) (refl, refl)
    & of_constant (numeric.Compare int.I32 compare.LtU) (ByFirst comparisons arithmetic.Spells) numeric_written (omega arith) (refl, refl)
    & of_constant (numeric.Compare int.I32 compare.GtS) (ByFirst comparisons arithmetic.Spells) numeric_written (omega arith) (refl, refl)
    & of_constant (numeric.Compare int.I32 compare.GtU) (ByFirst comparisons arithmetic.Spells) numeric_written (omega arith) (refl, refl)
    & of_constant (numeric.Compare int.I32 compare.LeS) (ByFirst comparisons arithmetic.Spells) numeric_written (omega arith) (refl, refl)
    & of_constant (numeric.Compare int.I32 compare.LeU) (ByFirst comparisons arithmetic.Spells) numeric_written (omega arith) (refl, refl)
    & of_constant (numeric.Compare int.I32 compare.GeS) (ByFirst comparisons arithmetic.Spells) numeric_written (omega arith) (refl, refl)
    & of_constant (numeric.Compare int.I32 compare.GeU) (ByFirst comparisons arithmetic.Spells) numeric_written (omega arith) (refl, refl)
    & of_constant (numeric.Compare int.I64 compare.Eq) (ByFirst comparisons arithmetic.Spells) numeric_written (omega arith) (refl, refl)
    & of_constant (numeric.Compare int.I64 compare.Ne) (ByFirst comparisons arithmetic.Spells) numeric_written (omega arith) (refl, refl)
    & of_constant (numeric.Compare int.I64 compare.LtS) (ByFirst comparisons arithmetic.Spells) numeric_written (omega arith) (refl, refl)
    & of_constant (numeric.Compare int.I64 compare.LtU) (ByFirst comparisons arithmetic.Spells) numeric_written (omega arith) (refl, refl)
    & of_constant (numeric.Compare int.I64 compare.GtS) (ByFirst comparisons arithmetic.Spells) numeric_written (omega arith) (refl, refl)
    & of_constant (numeric.Compare int.I64 compare.GtU) (ByFirst comparisons arithmetic.Spells) numeric_written (omega arith) (refl, refl)
    & of_constant (numeric.Compare int.I64 compare.LeS) (ByFirst comparisons arithmetic.Spells) numeric_written (omega arith) (refl, refl)
    & of_constant (numeric.Compare int.I64 compare.LeU) (ByFirst comparisons arithmetic.Spells) numeric_written (omega arith) (refl, refl)
    & of_constant (numeric.Compare int.I64 compare.GeS) (ByFirst comparisons arithmetic.Spells) numeric_written (omega arith) (refl, refl)
    & of_constant (numeric.Compare int.I64 compare.GeU) (ByFirst comparisons arithmetic.Spells) numeric_written (omega arith) (refl, refl)
    & tt)

comparison_begins : BeginsIn (keys comparisons ++ (keys arithmetics ++ [])) comparison.Spells
unfolding comparison
comparison_begins = begins_table_or comparisons arithmetic arithmetic_solid (keys arithmetics ++ []) arithmetic_begins

canon_numeric : IsCanonical numeric_op numeric_written
unfolding numeric_op
canon_numeric = canon_table_or numerics comparison comparison_solid numeric_written canon_comparison (λ k b x h. apart_from (keys comparisons ++ (keys arithmetics ++ [])) numerics refl k (comparison_begins k b x h))
    (of_image (signed_number 32) shortest_signed numeric.I32Const (ByFirst numerics comparison.Spells) numeric_written (canon_signed 32 (omega arith)) (λ a. omega arith) (λ a s. (a, s, refl))
    & of_image (signed_number 64) shortest_signed numeric.I64Const (ByFirst numerics comparison.Spells) numeric_written (canon_signed 64 (omega arith)) (λ a. omega arith) (λ a s. (a, s, refl))
    & of_constant (numeric.Eqz int.I32) (ByFirst numerics comparison.Spells) numeric_written (omega arith) (refl, refl)
    & of_constant (numeric.Eqz int.I64) (ByFirst numerics comparison.Spells) numeric_written (omega arith) (refl, refl)
    & of_constant (numeric.Convert convert.I32WrapI64) (ByFirst numerics comparison.Spells) numeric_written (omega arith) (refl, refl)
    & of_constant (numeric.Convert convert.I64ExtendI32S) (ByFirst numerics comparison.Spells) numeric_written (omega arith) (refl, refl)
    & of_constant (numeric.Convert convert.I64ExtendI32U) (ByFirst numerics comparison.Spells) numeric_written (omega arith) (refl, refl)
    & of_constant (numeric.Convert convert.I32Extend8S) (ByFirst numerics comparison.Spells) numeric_written (omega arith) (refl, refl)
    & of_constant (numeric.Convert convert.I32Extend16S) (ByFirst numerics comparison.Spells) numeric_written (omega arith) (refl, refl)
    & of_constant (numeric.Convert convert.I64Extend8S) (ByFirst numerics comparison.Spells) numeric_written (omega arith) (refl, refl)
    & of_constant (numeric.Convert convert.I64Extend16S) (ByFirst numerics comparison.Spells) numeric_written (omega arith) (refl, refl)
    & of_constant (numeric.Convert convert.I64Extend32S) (ByFirst numerics comparison.Spells) numeric_written (omega arith) (refl, refl)
    & tt)

abbrev numeric_bytes : List ℕ
numeric_bytes = keys numerics ++ (keys comparisons ++ (keys arithmetics ++ []))

numeric_begins : BeginsIn numeric_bytes numeric_op.Spells
unfolding numeric_op
numeric_begins = begins_table_or numerics comparison comparison_solid (keys comparisons ++ (keys arithmetics ++ [])) comparison_begins

-- ## Memory instructions

canon_two : IsCanonical (number 32 ⊗ number 32) (λ p. two_written p.0 p.1)
canon_two = canon_pair (number 32) (number 32) shortest shortest (canon_number 32 (omega arith)) (canon_number 32 (omega arith))

canon_memarg : IsCanonical memarg memarg_written
unfolding memarg
canon_memarg = canon_image (such_that (λ n. nat_lt n 64) (number 32) ⊗ number 64) (λ p. shortest p.0 ++ shortest p.1) (λ p. record { align = p.0; memory = 0; offset = p.1 }) memarg_written
    (canon_pair (such_that (λ n. nat_lt n 64) (number 32)) (number 64) shortest shortest (canon_such (λ n. nat_lt n 64) (number 32) shortest (canon_number 32 (omega arith))) (canon_number 64 (omega arith)))
    (λ p. refl)

accesses_written : EntriesWritten accesses (ByFirst accesses Never) memory_written
accesses_written =
    of_image memarg memarg_written (memory.Load load.I32Load) (ByFirst accesses Never) memory_written canon_memarg (λ a. omega arith) (λ a s. (a, s, refl))
    & of_image memarg memarg_written (memory.Load load.I64Load) (ByFirst accesses Never) memory_written canon_memarg (λ a. omega arith) (λ a s. (a, s, refl))
    & of_image memarg memarg_written (memory.Load load.I32Load8S) (ByFirst accesses Never) memory_written canon_memarg (λ a. omega arith) (λ a s. (a, s, refl))
    & of_image memarg memarg_written (memory.Load load.I32Load8U) (ByFirst accesses Never) memory_written canon_memarg (λ a. omega arith) (λ a s. (a, s, refl))
    & of_image memarg memarg_written (memory.Load load.I32Load16S) (ByFirst accesses Never) memory_written canon_memarg (λ a. omega arith) (λ a s. (a, s, refl))
    & of_image memarg memarg_written (memory.Load load.I32Load16U) (ByFirst accesses Never) memory_written canon_memarg (λ a. omega arith) (λ a s. (a, s, refl))
    & of_image memarg memarg_written (memory.Load load.I64Load8S) (ByFirst accesses Never) memory_written canon_memarg (λ a. omega arith) (λ a s. (a, s, refl))
    & of_image memarg memarg_written (memory.Load load.I64Load8U) (ByFirst accesses Never) memory_written canon_memarg (λ a. omega arith) (λ a s. (a, s, refl))
    & of_image memarg memarg_written (memory.Load load.I64Load16S) (ByFirst accesses Never) memory_written canon_memarg (λ a. omega arith) (λ a s. (a, s, refl))
    & of_image memarg memarg_written (memory.Load load.I64Load16U) (ByFirst accesses Never) memory_written canon_memarg (λ a. omega arith) (λ a s. (a, s, refl))
    & of_image memarg memarg_written (memory.Load load.I64Load32S) (ByFirst accesses Never) memory_written canon_memarg (λ a. omega arith) (λ a s. (a, s, refl))
    & of_image memarg memarg_written (memory.Load load.I64Load32U) (ByFirst accesses Never) memory_written canon_memarg (λ a. omega arith) (λ a s. (a, s, refl))
    & of_image memarg memarg_written (memory.Store store.I32Store) (ByFirst accesses Never) memory_written canon_memarg (λ a. omega arith) (λ a s. (a, s, refl))
    & of_image memarg memarg_written (memory.Store store.I64Store) (ByFirst accesses Never) memory_written canon_memarg (λ a. omega arith) (λ a s. (a, s, refl))
    & of_image memarg memarg_written (memory.Store store.I32Store8) (ByFirst accesses Never) memory_written canon_memarg (λ a. omega arith) (λ a s. (a, s, refl))
    & of_image memarg memarg_written (memory.Store store.I32Store16) (ByFirst accesses Never) memory_written canon_memarg (λ a. omega arith) (λ a s. (a, s, refl))
    & of_image memarg memarg_written (memory.Store store.I64Store8) (ByFirst accesses Never) memory_written canon_memarg (λ a. omega arith) (λ a s. (a, s, refl))
    & of_image memarg memarg_written (memory.Store store.I64Store16) (ByFirst accesses Never) memory_written canon_memarg (λ a. omega arith) (λ a s. (a, s, refl))
    & of_image memarg memarg_written (memory.Store store.I64Store32) (ByFirst accesses Never) memory_written canon_memarg (λ a. omega arith) (λ a s. (a, s, refl))
    & of_image (number 32) shortest memory.Size (ByFirst accesses Never) memory_written (canon_number 32 (omega arith)) (λ a. omega arith) (λ a s. (a, s, refl))
    & of_image (number 32) shortest memory.Grow (ByFirst accesses Never) memory_written (canon_number 32 (omega arith)) (λ a. omega arith) (λ a s. (a, s, refl))
    & tt

memory_spelled : (l : List ℕ) (o : MemoryOp) → ByFirst accesses Never l o → ByFirst (entries_of op.Memory accesses) (numeric_op ⇒ op.Numeric).Spells l (op.Memory o)
memory_spelled l o h = spelled_behind [] accesses op.Memory (numeric_op ⇒ op.Numeric).Spells refl l o h

canon_plain : IsCanonical plain op_written
unfolding plain
canon_plain = canon_table_or (entries_of op.Memory accesses) (numeric_op ⇒ op.Numeric) (λ x h. numeric_solid h.0 h.1) op_written
    (canon_image numeric_op numeric_written op.Numeric op_written canon_numeric (λ o. refl))
    (λ k b x h. apart_from numeric_bytes (entries_of op.Memory accesses) refl k (numeric_begins k b h.0 h.1))
    (entries_written accesses op.Memory (ByFirst accesses Never) (ByFirst (entries_of op.Memory accesses) (numeric_op ⇒ op.Numeric).Spells) memory_written op_written (λ o. refl) (λ o. memory_spelled (memory_written o) o) accesses_written)

abbrev plain_bytes : List ℕ
plain_bytes = keys (entries_of op.Memory accesses) ++ numeric_bytes

plain_begins : BeginsIn plain_bytes plain.Spells
unfolding plain
plain_begins = begins_table_or (entries_of op.Memory accesses) (numeric_op ⇒ op.Numeric) (λ x h. numeric_solid h.0 h.1) numeric_bytes (λ k b x h. numeric_begins k b h.0 h.1)

-- ## Instructions behind the byte FC

-- the bytes behind FC
abbrev after_first : List ℕ → List ℕ
after_first [] = []
after_first (k ∷ b) = b

abbrev bulk_written : Op → List ℕ
bulk_written o = after_first (op_written o)

behind_byte : {A : Type 0} (n : ℕ) (f : Format A) (v : A → List ℕ) (make : A → Op) → n < 2 ^ 32 → IsCanonical f v → ((a : A) → bulk_written (make a) ≡ shortest n ++ v a) → ((a : A) → f.Spells (v a) a → Picked bulks n (v a) (make a))
    → (b : List ℕ) (x : Op) → (f ⇒ make).Spells b x → IsWrittenBy n (ByNumber (Unsigned 32) bulks) bulk_written b x
behind_byte n f v make lt p is h = of_number n f v make bulks bulk_written lt p is h

-- what is spelled behind FC is written behind it
abbrev StandsBehind : List (ℕ × Format Op) → Type 0
StandsBehind [] = Unit {0}
StandsBehind (e ∷ es) = ((b : List ℕ) (x : Op) → e.1.Spells b x → op_written x ≡ 0xFC ∷ bulk_written x) × StandsBehind es

picked_behind : (t : List (ℕ × Format Op)) → StandsBehind t → (n : ℕ) (b : List ℕ) (x : Op) → Picked t n b x → op_written x ≡ 0xFC ∷ bulk_written x
picked_behind [] s n b x h = absurd h
picked_behind (e ∷ t) s n b x h = in_either (nat_eq n e.0) (e.1.Spells b x) (Picked t n b x) (op_written x ≡ 0xFC ∷ bulk_written x) (s.0 b x) (picked_behind t s.1 n b x) h

of_op : {A : Type 0} (f : Format A) (make : A → Op) → ((a : A) → op_written (make a) ≡ 0xFC ∷ bulk_written (make a)) → (b : List ℕ) (x : Op) → (f ⇒ make).Spells b x → op_written x ≡ 0xFC ∷ bulk_written x
of_op f make e b x h = subst (λ (o : Op). op_written o ≡ 0xFC ∷ bulk_written o) h.2 (e h.0)

begins_bulk : (b : List ℕ) (x : Op) → bulk.Spells b x → op_written x ≡ 0xFC ∷ bulk_written x
unfolding bulk
begins_bulk b x h = picked_behind bulks
    (of_op (number 32 ⊗ number 32) (λ p. op.Memory (memory.Init p.0 p.1)) (λ a. refl)
    & of_op (number 32) (λ d. op.Memory (memory.DataDrop d)) (λ a. refl)
    & of_op (number 32 ⊗ number 32) (λ p. op.Memory (memory.Copy p.0 p.1)) (λ a. refl)
    & of_op (number 32) (λ m. op.Memory (memory.Fill m)) (λ a. refl)
    & of_op (number 32 ⊗ number 32) (λ p. op.Table (table_op.Init p.0 p.1)) (λ a. refl)
    & of_op (number 32) (λ e. op.Table (table_op.ElemDrop e)) (λ a. refl)
    & of_op (number 32 ⊗ number 32) (λ p. op.Table (table_op.Copy p.0 p.1)) (λ a. refl)
    & of_op (number 32) (λ t. op.Table (table_op.Grow t)) (λ a. refl)
    & of_op (number 32) (λ t. op.Table (table_op.Size t)) (λ a. refl)
    & of_op (number 32) (λ t. op.Table (table_op.Fill t)) (λ a. refl)
    & tt)
    h.0 h.2 x h.5

canon_bulk : IsCanonical bulk bulk_written
unfolding bulk shortest_in
canon_bulk = canon_choice bulks bulk_written
    (behind_byte 8 (number 32 ⊗ number 32) (λ p. two_written p.0 p.1) (λ p. op.Memory (memory.Init p.0 p.1)) (omega arith) canon_two (λ a. refl) (λ a s. (a, s, refl))
    & behind_byte 9 (number 32) shortest (λ d. op.Memory (memory.DataDrop d)) (omega arith) (canon_number 32 (omega arith)) (λ a. refl) (λ a s. (a, s, refl))
    & behind_byte 10 (number 32 ⊗ number 32) (λ p. two_written p.0 p.1) (λ p. op.Memory (memory.Copy p.0 p.1)) (omega arith) canon_two (λ a. refl) (λ a s. (a, s, refl))
    & behind_byte 11 (number 32) shortest (λ m. op.Memory (memory.Fill m)) (omega arith) (canon_number 32 (omega arith)) (λ a. refl) (λ a s. (a, s, refl))
    & behind_byte 12 (number 32 ⊗ number 32) (λ p. two_written p.0 p.1) (λ p. op.Table (table_op.Init p.0 p.1)) (omega arith) canon_two (λ a. refl) (λ a s. (a, s, refl))
    & behind_byte 13 (number 32) shortest (λ e. op.Table (table_op.ElemDrop e)) (omega arith) (canon_number 32 (omega arith)) (λ a. refl) (λ a s. (a, s, refl))
    & behind_byte 14 (number 32 ⊗ number 32) (λ p. two_written p.0 p.1) (λ p. op.Table (table_op.Copy p.0 p.1)) (omega arith) canon_two (λ a. refl) (λ a s. (a, s, refl))
    & behind_byte 15 (number 32) shortest (λ t. op.Table (table_op.Grow t)) (omega arith) (canon_number 32 (omega arith)) (λ a. refl) (λ a s. (a, s, refl))
    & behind_byte 16 (number 32) shortest (λ t. op.Table (table_op.Size t)) (omega arith) (canon_number 32 (omega arith)) (λ a. refl) (λ a s. (a, s, refl))
    & behind_byte 17 (number 32) shortest (λ t. op.Table (table_op.Fill t)) (omega arith) (canon_number 32 (omega arith)) (λ a. refl) (λ a s. (a, s, refl))
    & tt)

-- ## Control instructions, and all others

canon_hdl : IsCanonical hdl clause_written
unfolding hdl
canon_hdl = canon_table clauses clause_written
    (of_image (number 32 ⊗ number 32) (λ p. two_written p.0 p.1) (λ p. clause.Label p.0 p.1) (ByFirst clauses Never) clause_written canon_two (λ a. omega arith) (λ a s. (a, s, refl))
    & of_image (number 32) shortest clause.Switch (ByFirst clauses Never) clause_written (canon_number 32 (omega arith)) (λ a. omega arith) (λ a s. (a, s, refl))
    & tt)

-- what is written behind FC is
bulk_is_written : (b : List ℕ) (x : Op) → bulk.Spells b x → IsWritten (ByFirst others plain.Spells) op_written b x
bulk_is_written b x h =
    let e = begins_bulk b x h in
    (omega (arith, ap length e, canon_bulk.short b x h), λ le. subst (λ (l : List ℕ). ByFirst others plain.Spells l x) (sym e) (canon_bulk.again b x h le))

canon_other : IsCanonical other op_written
unfolding other
canon_other = canon_table_or others plain plain_solid op_written canon_plain (λ k b x h. apart_from plain_bytes others refl k (plain_begins k b x h))
    (of_constant (op.Parametric parametric.Drop) (ByFirst others plain.Spells) op_written (omega arith) (refl, refl)
    & of_constant (op.Parametric parametric.Select) (ByFirst others plain.Spells) op_written (omega arith) (refl, refl)
    & of_image (vec valtype) (vec_written valtype_written) (λ ts. op.Parametric (parametric.SelectOf ts)) (ByFirst others plain.Spells) op_written (canon_vec valtype valtype_written canon_valtype) (λ a. omega arith) (λ a s. (a, s, refl))
    & of_image (number 32) shortest (λ x. op.Variable (variable.LocalGet x)) (ByFirst others plain.Spells) op_written (canon_number 32 (omega arith)) (λ a. omega arith) (λ a s. (a, s, refl))
    & of_image (number 32) shortest (λ x. op.Variable (variable.LocalSet x)) (ByFirst others plain.Spells) op_written (canon_number 32 (omega arith)) (λ a. omega arith) (λ a s. (a, s, refl))
    & of_image (number 32) shortest (λ x. op.Variable (variable.LocalTee x)) (ByFirst others plain.Spells) op_written (canon_number 32 (omega arith)) (λ a. omega arith) (λ a s. (a, s, refl))
    & of_image (number 32) shortest (λ x. op.Variable (variable.GlobalGet x)) (ByFirst others plain.Spells) op_written (canon_number 32 (omega arith)) (λ a. omega arith) (λ a s. (a, s, refl))
    & of_image (number 32) shortest (λ x. op.Variable (variable.GlobalSet x)) (ByFirst others plain.Spells) op_written (canon_number 32 (omega arith)) (λ a. omega arith) (λ a s. (a, s, refl))
    & of_image (number 32) shortest (λ x. op.Table (table_op.Get x)) (ByFirst others plain.Spells) op_written (canon_number 32 (omega arith)) (λ a. omega arith) (λ a s. (a, s, refl))
    & of_image (number 32) shortest (λ x. op.Table (table_op.Set x)) (ByFirst others plain.Spells) op_written (canon_number 32 (omega arith)) (λ a. omega arith) (λ a s. (a, s, refl))
    & of_image heaptype heaptype_written (λ h. op.Reference (reference.Null h)) (ByFirst others plain.Spells) op_written canon_heaptype (λ a. omega arith) (λ a s. (a, s, refl))
    & of_constant (op.Reference reference.IsNull) (ByFirst others plain.Spells) op_written (omega arith) (refl, refl)
    & of_image (number 32) shortest (λ x. op.Reference (reference.Func x)) (ByFirst others plain.Spells) op_written (canon_number 32 (omega arith)) (λ a. omega arith) (λ a s. (a, s, refl))
    & of_constant (op.Reference reference.AsNonNull) (ByFirst others plain.Spells) op_written (omega arith) (refl, refl)
    & of_image (number 32) shortest (λ x. op.Switching (switching.ContNew x)) (ByFirst others plain.Spells) op_written (canon_number 32 (omega arith)) (λ a. omega arith) (λ a s. (a, s, refl))
    & of_image (number 32 ⊗ number 32) (λ p. two_written p.0 p.1) (λ p. op.Switching (switching.ContBind p.0 p.1)) (ByFirst others plain.Spells) op_written canon_two (λ a. omega arith) (λ a s. (a, s, refl))
    & of_image (number 32) shortest (λ x. op.Switching (switching.Suspend x)) (ByFirst others plain.Spells) op_written (canon_number 32 (omega arith)) (λ a. omega arith) (λ a s. (a, s, refl))
    & of_image (number 32 ⊗ vec hdl) (λ p. shortest p.0 ++ vec_written clause_written p.1) (λ p. op.Switching (switching.Resume p.0 p.1)) (ByFirst others plain.Spells) op_written (canon_pair (number 32) (vec hdl) shortest (vec_written clause_written) (canon_number 32 (omega arith)) (canon_vec hdl clause_written canon_hdl)) (λ a. omega arith) (λ a s. (a, s, refl))
    & of_image (number 32 ⊗ number 32) (λ p. two_written p.0 p.1) (λ p. op.Switching (switching.Switch p.0 p.1)) (ByFirst others plain.Spells) op_written canon_two (λ a. omega arith) (λ a s. (a, s, refl))
    & bulk_is_written
    & tt)

abbrev other_bytes : List ℕ
other_bytes = keys others ++ plain_bytes

other_begins : BeginsIn other_bytes other.Spells
unfolding other
other_begins = begins_table_or others plain plain_solid plain_bytes plain_begins

controls_written : EntriesWritten controls (ByFirst controls Never) control_written
controls_written =
    of_constant control.Unreachable (ByFirst controls Never) control_written (omega arith) (refl, refl)
    & of_constant control.Nop (ByFirst controls Never) control_written (omega arith) (refl, refl)
    & of_image (number 32) shortest control.Br (ByFirst controls Never) control_written (canon_number 32 (omega arith)) (λ a. omega arith) (λ a s. (a, s, refl))
    & of_image (number 32) shortest control.BrIf (ByFirst controls Never) control_written (canon_number 32 (omega arith)) (λ a. omega arith) (λ a s. (a, s, refl))
    & of_image (vec (number 32) ⊗ number 32) (λ p. vec_written shortest p.0 ++ shortest p.1) (λ p. control.BrTable p.0 p.1) (ByFirst controls Never) control_written (canon_pair (vec (number 32)) (number 32) (vec_written shortest) shortest (canon_vec (number 32) shortest (canon_number 32 (omega arith))) (canon_number 32 (omega arith))) (λ a. omega arith) (λ a s. (a, s, refl))
    & of_constant control.Return (ByFirst controls Never) control_written (omega arith) (refl, refl)
    & of_image (number 32) shortest control.Call (ByFirst controls Never) control_written (canon_number 32 (omega arith)) (λ a. omega arith) (λ a s. (a, s, refl))
    & of_image (number 32 ⊗ number 32) (λ p. two_written p.0 p.1) (λ p. control.CallIndirect p.0 p.1) (ByFirst controls Never) control_written canon_two (λ a. omega arith) (λ a s. (a, s, refl))
    & of_image (number 32) shortest control.ReturnCall (ByFirst controls Never) control_written (canon_number 32 (omega arith)) (λ a. omega arith) (λ a s. (a, s, refl))
    & of_image (number 32 ⊗ number 32) (λ p. two_written p.0 p.1) (λ p. control.ReturnCallIndirect p.0 p.1) (ByFirst controls Never) control_written canon_two (λ a. omega arith) (λ a s. (a, s, refl))
    & of_image (number 32) shortest control.CallRef (ByFirst controls Never) control_written (canon_number 32 (omega arith)) (λ a. omega arith) (λ a s. (a, s, refl))
    & of_image (number 32) shortest control.ReturnCallRef (ByFirst controls Never) control_written (canon_number 32 (omega arith)) (λ a. omega arith) (λ a s. (a, s, refl))
    & of_image (number 32) shortest control.BrOnNull (ByFirst controls Never) control_written (canon_number 32 (omega arith)) (λ a. omega arith) (λ a s. (a, s, refl))
    & of_image (number 32) shortest control.BrOnNonNull (ByFirst controls Never) control_written (canon_number 32 (omega arith)) (λ a. omega arith) (λ a s. (a, s, refl))
    & tt

control_spelled : (l : List ℕ) (o : ControlOp) → ByFirst controls Never l o → ByFirst (entries_of op.Control controls) other.Spells l (op.Control o)
control_spelled l o h = spelled_behind [] controls op.Control other.Spells refl l o h

canon_instruction : IsCanonical instruction op_written
unfolding instruction
canon_instruction = canon_table_or (entries_of op.Control controls) other other_solid op_written canon_other (λ k b x h. apart_from other_bytes (entries_of op.Control controls) refl k (other_begins k b x h))
    (entries_written controls op.Control (ByFirst controls Never) (ByFirst (entries_of op.Control controls) other.Spells) control_written op_written (λ o. refl) (λ o. control_spelled (control_written o) o) controls_written)

abbrev instruction_bytes : List ℕ
instruction_bytes = keys (entries_of op.Control controls) ++ other_bytes

instruction_begins : BeginsIn instruction_bytes instruction.Spells
unfolding instruction
instruction_begins = begins_table_or (entries_of op.Control controls) other other_solid other_bytes other_begins

-- ## Blocks

value_spelled : (l : List ℕ) (t : ValType) → ByFirst valtypes Never l t → ByFirst blocktypes (index33 ⇒ block.Index).Spells l (block.Value t)
value_spelled l t h = spelled_behind ((0x40, constant block.Empty) ∷ []) valtypes block.Value (index33 ⇒ block.Index).Spells refl l t h

canon_blocktype : IsCanonical blocktype blocktype_written
unfolding blocktype
canon_blocktype = canon_table_or blocktypes (index33 ⇒ block.Index) (λ x h. index33_solid h.0 h.1) blocktype_written
    (canon_image index33 index_written block.Index blocktype_written canon_index (λ x. refl))
    (not_an_index blocktypes block.Index refl)
    (of_constant block.Empty (ByFirst blocktypes (index33 ⇒ block.Index).Spells) blocktype_written (omega arith) (refl, refl)
    & entries_written valtypes block.Value (ByFirst valtypes Never) (ByFirst blocktypes (index33 ⇒ block.Index).Spells) valtype_written blocktype_written (λ t. refl) (λ t. value_spelled (valtype_written t) t) valtypes_written)

abbrev token_whole : Grammar Token
token_whole = ByFirst tokens_by_byte (instruction ⇒ tok.Plain).Spells

canon_token : IsCanonical token token_written
unfolding token
canon_token = canon_table_or tokens_by_byte (instruction ⇒ tok.Plain) (λ x h. instruction_solid h.0 h.1) token_written
    (canon_image instruction op_written tok.Plain token_written canon_instruction (λ o. refl))
    (λ k b x h. apart_from instruction_bytes tokens_by_byte refl k (instruction_begins k b h.0 h.1))
    (of_image blocktype blocktype_written (tok.Block kind.Block) token_whole token_written canon_blocktype (λ b. omega arith) (λ b s. (b, s, refl))
    & of_image blocktype blocktype_written (tok.Block kind.Loop) token_whole token_written canon_blocktype (λ b. omega arith) (λ b s. (b, s, refl))
    & of_image blocktype blocktype_written tok.If token_whole token_written canon_blocktype (λ b. omega arith) (λ b s. (b, s, refl))
    & of_constant tok.Else token_whole token_written (omega arith) (refl, refl)
    & of_constant tok.End token_whole token_written (omega arith) (refl, refl)
    & tt)

-- ## Expressions

pub canon_expr : IsCanonical expr expr_written
unfolding expr Expr
canon_expr = record {
  short = λ b c h. each_short token token_written canon_token b (tokens c ++ tok.End ∷ []) h;
  again = λ b c h le. each_again token token_written canon_token b (tokens c ++ tok.End ∷ []) h le;
}
