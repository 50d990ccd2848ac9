-- Values of a type (Core, appendix, soundness: values and results; the explainer adds continuations).
use Rattle.std.specs.Prelude.{◌≡◌, ℕ, ⊤, Bool, IsTrue, List, [], ◌∷◌, ◌++◌, Some, slice_get}
use Rattle.w_types.specs.declared.types.FuncType.{FuncType}
use Rattle.w_types.specs.declared.types.HeapType.{HeapType}
use Rattle.w_types.specs.declared.types.HeapType.TheVariants.{Index}
use Rattle.w_types.specs.declared.types.RefType.{RefType}
use Rattle.w_types.specs.declared.types.ValType.{ValType}
use Rattle.w_types.specs.declared.types.ValType.TheVariants as type
use Rattle.lists.specs.Rows.{Row, ε, ◌▹◌}
use Rattle.w_syntax.specs.declared.module.Module.{Module}
use Rattle.w_canon.specs.Matching.{HeapMatches, FuncMatches}
use Rattle.w_rules.specs.Context.{cont_of}
use Rattle.w_rules.specs.Operands.{Operand, Known, BottomRef}
use Rattle.w_rules.specs.Spaces.{functions_of, context_of}
use Rattle.w_reduce.specs.Values.{Val, I32, I64, Null, Func, Cont}
use Rattle.w_typed.specs.Ranges.{IsBelow}

-- The function types of the store's continuations, by address: what each takes, and what it gives at its end.
abbrev pub Arrows : Type 0
Arrows = List FuncType

-- the list grows by appending alone
pub record Grows (few many : Arrows) : Type 0 where
  pub more : Arrows
  pub is : many ≡ few ++ more

-- A continuation refers to a heap type where its own function type matches that of a continuation type below it, also when it was
-- consumed.
pub record ContinuationTyped (m : Module) (K : Arrows) (a : ℕ) (h : HeapType) : Type 0 where
  pub arrow : FuncType
  pub is : slice_get K a ≡ Some arrow
  pub index : ℕ
  pub type : FuncType
  pub has_type : cont_of (context_of m) index ≡ Some type
  pub matches : FuncMatches m.types arrow type
  pub heap : HeapMatches m.types (Index index) h

-- A number in its range is of its type. Null is of each reference type that may be null, and a function of each that its own type
-- matches.
pub data ValueTyped (m : Module) (K : Arrows) : Val → ValType → Type 0 where
  an_i32 : {n : ℕ} → IsBelow m n 32 → ValueTyped m K (I32 n) type.I32
  an_i64 : {n : ℕ} → IsBelow m n 64 → ValueTyped m K (I64 n) type.I64
  a_null : {r : RefType} → IsTrue r.nullable → ValueTyped m K Null (type.Ref r)
  a_function : {a x : ℕ} {r : RefType} → slice_get (functions_of m) a ≡ Some x → HeapMatches m.types (Index x) r.heap → ValueTyped m K (Func a) (type.Ref r)
  a_continuation : {a : ℕ} {r : RefType} → ContinuationTyped m K a r.heap → ValueTyped m K (Cont a) (type.Ref r)

-- As derivations have types: no value is of the bottom type, and null alone refers to the bottom heap type.
pub data OperandTyped (m : Module) (K : Arrows) : Val → Operand → Type 0 where
  a_value : {v : Val} {t : ValType} → ValueTyped m K v t → OperandTyped m K v (Known t)
  a_bottom : {n : Bool} → IsTrue n → OperandTyped m K Null (BottomRef n)

-- values, each of its type
pub data ValuesTyped (m : Module) (K : Arrows) : Row Val → Row Operand → Type 0 where
  no_values : ValuesTyped m K ε ε
  values : {vs : Row Val} {v : Val} {ts : Row Operand} {t : Operand} → ValuesTyped m K vs ts → OperandTyped m K v t → ValuesTyped m K (vs ▹ v) (ts ▹ t)

-- values, all of one type
abbrev pub AllTyped : Module → Arrows → ValType → List Val → Type 0
AllTyped m K t [] = ⊤
AllTyped m K t (v ∷ vs) = ValueTyped m K v t × AllTyped m K t vs
