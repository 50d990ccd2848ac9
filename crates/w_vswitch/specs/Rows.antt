-- The rows of stack switching instructions.
use Rattle.std.specs.Prelude.{◌≡◌, ◌⊎◌, ℕ, ◌&&◌, Bool, List, Option, Some, None}
use Rattle.std.specs.Borrow.{Bor}
use Rattle.w_types.specs.declared.types.FuncType.{FuncType}
use Rattle.w_types.specs.declared.types.HeapType.{HeapType}
use Rattle.w_types.specs.declared.types.HeapType.TheVariants.{Func, NoFunc, Cont, NoCont, Index}
use Rattle.w_types.specs.declared.types.ValType.{ValType}
use Rattle.w_types.specs.declared.types.ValType.TheVariants.{I32, I64, Ref}
use Rattle.lists.specs.Rows.{Row, ε, ◌▹◌, row_of, size}
use Rattle.w_syntax.specs.declared.instructions.SwitchingOp.{SwitchingOp}
use Rattle.w_syntax.specs.declared.instructions.SwitchingOp.TheVariants as op
use Rattle.w_canon.specs.declared.entry.Entry.{Entry}
use Rattle.w_canon.specs.Tests.{result_test}
use Rattle.w_rules.specs.Conditions.{BindTyped, SwitchTyped, SwitchingCondition}
use Rattle.w_rules.specs.Context.{Context}
use Rattle.w_rules.specs.InstructionTypes.{fixed, untyped, nullable, non_null, switching_op_type}
use Rattle.w_rules.specs.Peak.{switching_extra}
use Rattle.w_vplain.specs.Row.{above}

-- the instruction's rule holds, with [ins] to [outs], and it adds what the longest label of its clauses takes
pub record RowAt (o : SwitchingOp) (ins outs : Row ValType) (raise : Option ℕ) (c : Context) : Type 0 where
  pub condition : SwitchingCondition c o
  pub row : switching_op_type c o ≡ fixed ins outs
  pub adds : (h : ℕ) → switching_extra c o h ≡ above (size ins) raise h

-- the instruction has no rule, or what its rule asks does not hold
abbrev pub RefusedAt : SwitchingOp → Context → Type 0
RefusedAt o c = (SwitchingCondition c o → ⊥) ⊎ (switching_op_type c o ≡ untyped)

-- ## Rows that end in a reference to a type by its index

abbrev pub index_of : Row ValType → HeapType → Option (Row ValType × ℕ)
index_of us (Index y) = Some (us, y)
index_of us Func = None
index_of us NoFunc = None
index_of us Cont = None
index_of us NoCont = None

-- what stands before the reference, and the index
abbrev pub last_index : Row ValType → Option (Row ValType × ℕ)
last_index ε = None
last_index (us ▹ Ref r) = index_of us r.heap
last_index (us ▹ I32) = None
last_index (us ▹ I64) = None

abbrev pub index_view : Bor (List ValType) × ℕ → Row ValType × ℕ
index_view p = (row_of p.0.now, p.1)

-- ## What instructions and clauses ask of types, as tests on the entries of the types

-- a label clause, of a resume with these results: its tag, what its label takes beneath the continuation, and the continuation's type
abbrev pub label_test : List Entry → List ValType → FuncType → List ValType → FuncType → Bool
label_test es results tag beneath target =
    result_test es tag.params beneath && (result_test es target.params tag.results && result_test es results target.results)

-- a cont.bind of these types binds these, where its condition holds
abbrev pub BoundBy : ℕ → ℕ → Option (List ValType) → Context → Type 0
BoundBy x y None c = BindTyped c x y → ⊥
BoundBy x y (Some us) c = RowAt (op.ContBind x y) (row_of us ▹ nullable x) (ε ▹ non_null y) None c

-- a switch takes the first of these beneath the continuation and gives the second, where its condition holds
abbrev pub SwitchedBy : ℕ → ℕ → Option (List ValType × List ValType) → Context → Type 0
SwitchedBy x e None c = SwitchTyped c x e → ⊥
SwitchedBy x e (Some p) c = RowAt (op.Switch x e) (row_of p.0 ▹ nullable x) (row_of p.1) None c
