-- Value types as two numbers: a kind, and the index of a type, which is 0 where the kind has none. The kinds below 3 are of no value
-- type.
use Rattle.std.specs.Prelude.{◌≡◌, ℕ, zero, suc, ◌+◌, true, false, if◌then◌else◌}
use Rattle.w_types.specs.declared.types.HeapType.{HeapType}
use Rattle.w_types.specs.declared.types.HeapType.TheVariants.{Func, NoFunc, Cont, NoCont, Index}
use Rattle.w_types.specs.declared.types.RefType.{RefType}
use Rattle.w_types.specs.declared.types.ValType.{ValType}
use Rattle.w_types.specs.declared.types.ValType.TheVariants.{I32, I64, Ref}

-- ## The type of a kind and an index

abbrev pub ref_null : HeapType → RefType
ref_null h = record { nullable = true; heap = h }

abbrev pub ref_to : HeapType → RefType
ref_to h = record { nullable = false; heap = h }

-- references, whose kinds begin with 5
abbrev pub reference_at : ℕ → ℕ → RefType
reference_at zero x = ref_to Func
reference_at (suc zero) x = ref_null Func
reference_at (suc (suc zero)) x = ref_to NoFunc
reference_at (suc (suc (suc zero))) x = ref_null NoFunc
reference_at (suc (suc (suc (suc zero)))) x = ref_to Cont
reference_at (suc (suc (suc (suc (suc zero))))) x = ref_null Cont
reference_at (suc (suc (suc (suc (suc (suc zero)))))) x = ref_to NoCont
reference_at (suc (suc (suc (suc (suc (suc (suc zero))))))) x = ref_null NoCont
reference_at (suc (suc (suc (suc (suc (suc (suc (suc zero)))))))) x = ref_to (Index x)
reference_at (suc (suc (suc (suc (suc (suc (suc (suc (suc k))))))))) x = ref_null (Index x)

abbrev pub type_at : ℕ → ℕ → ValType
type_at zero x = I32
type_at (suc zero) x = I32
type_at (suc (suc zero)) x = I32
type_at (suc (suc (suc zero))) x = I32
type_at (suc (suc (suc (suc zero)))) x = I64
type_at (suc (suc (suc (suc (suc k))))) x = Ref (reference_at k x)

-- ## The kind and the index of a type

abbrev pub heap_kind : HeapType → ℕ
heap_kind Func = 5
heap_kind NoFunc = 7
heap_kind Cont = 9
heap_kind NoCont = 11
heap_kind (Index x) = 13

abbrev pub kind_of : ValType → ℕ
kind_of I32 = 3
kind_of I64 = 4
kind_of (Ref r) = heap_kind r.heap + (if r.nullable then 1 else 0)

abbrev pub heap_index : HeapType → ℕ
heap_index Func = 0
heap_index NoFunc = 0
heap_index Cont = 0
heap_index NoCont = 0
heap_index (Index x) = x

abbrev pub index_of : ValType → ℕ
index_of I32 = 0
index_of I64 = 0
index_of (Ref r) = heap_index r.heap

-- the two numbers are those of their type
pub record IsPacked (k x : ℕ) : Type 0 where
  pub kind : kind_of (type_at k x) ≡ k
  pub index : index_of (type_at k x) ≡ x
