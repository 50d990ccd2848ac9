-- The tables of words have each kind's at its place.
use Rattle.std.proofs.Common.{◌≡◌, ℕ, ◌+◌, true, false, Bool, get_or, if◌then◌else◌, refl}
use Rattle.w_types.specs.declared.types.HeapType.{HeapType}
use Rattle.w_types.specs.declared.types.HeapType.TheVariants as heap
use Rattle.w_types.specs.declared.types.ValType.{ValType}
use Rattle.w_types.specs.declared.types.ValType.TheVariants as val
use Rattle.w_types.specs.PackedTypes.{kind_of, heap_kind}
use Rattle.w_rows.specs.declared.words.TheConstants.{GIVEN, WANTED}
use Rattle.w_rows.specs.Words.{given_word, wanted_word}

given_reference : (h : HeapType) (n : Bool) (d : ℕ) → get_or GIVEN (heap_kind h + (if n then 1 else 0)) d ≡ given_word (val.Ref (record { nullable = n; heap = h }))
given_reference heap.Func true d = refl
given_reference heap.Func false d = refl
given_reference heap.NoFunc true d = refl
given_reference heap.NoFunc false d = refl
given_reference heap.Cont true d = refl
given_reference heap.Cont false d = refl
given_reference heap.NoCont true d = refl
given_reference heap.NoCont false d = refl
given_reference (heap.Index x) true d = refl
given_reference (heap.Index x) false d = refl

-- where types are given
pub given_at : (t : ValType) (d : ℕ) → get_or GIVEN (kind_of t) d ≡ given_word t
given_at val.I32 d = refl
given_at val.I64 d = refl
given_at (val.Ref r) d = given_reference r.heap r.nullable d

wanted_reference : (h : HeapType) (n : Bool) (d : ℕ) → get_or WANTED (heap_kind h + (if n then 1 else 0)) d ≡ wanted_word (val.Ref (record { nullable = n; heap = h }))
wanted_reference heap.Func true d = refl
wanted_reference heap.Func false d = refl
wanted_reference heap.NoFunc true d = refl
wanted_reference heap.NoFunc false d = refl
wanted_reference heap.Cont true d = refl
wanted_reference heap.Cont false d = refl
wanted_reference heap.NoCont true d = refl
wanted_reference heap.NoCont false d = refl
wanted_reference (heap.Index x) true d = refl
wanted_reference (heap.Index x) false d = refl

-- and where they are wanted
pub wanted_at : (t : ValType) (d : ℕ) → get_or WANTED (kind_of t) d ≡ wanted_word t
wanted_at val.I32 d = refl
wanted_at val.I64 d = refl
wanted_at (val.Ref r) d = wanted_reference r.heap r.nullable d
