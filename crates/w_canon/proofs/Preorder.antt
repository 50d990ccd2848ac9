-- Matching is a preorder.
use Rattle.std.proofs.Common.{ℕ, List, [], ◌∷◌, slice_get, sym, ap, ◌∙◌}
use Rattle.std.specs.Option.{option_map}
use Rattle.w_types.specs.declared.types.HeapType.{HeapType}
use Rattle.w_types.specs.declared.types.HeapType.TheVariants.{Func, NoFunc, Cont, NoCont, Index}
use Rattle.w_types.specs.declared.types.ValType.{ValType}
use Rattle.w_types.specs.declared.types.ValType.TheVariants.{I32, I64, Ref}
use Rattle.w_types.specs.declared.types.RecGroup.{RecGroup}
use Rattle.w_types.specs.Groups.{types_of}
use Rattle.w_canon.specs.Entries.{kind_of}
use Rattle.w_canon.specs.Relations.{none, more, IsReflexive, IsTransitive}
use Rattle.w_canon.specs.Supertypes.{KeepsKinds}
use Rattle.w_canon.specs.Matching.{IsFunc, IsCont, IndexMatches, HeapMatches, RefMatches, func, no_func, cont, no_cont, index, index_func, index_cont, no_func_func, no_func_index, no_cont_cont, no_cont_index, ValMatches, i32, i64, ref, ResultMatches, FuncMatches}
use Rattle.w_canon.proofs.Equivalent.{reflexive, joined}
use Rattle.w_canon.proofs.Supertypes.{index_joined, index_kinds}
use Rattle.w_canon.proofs.Matches.{func_by_kind, cont_by_kind}

-- ## Kinds of types that match

module _ (gs : List RecGroup) (keeps : KeepsKinds gs) where
  func_before : (x y : ℕ) → IndexMatches gs x y → IsFunc gs y → IsFunc gs x
  func_before x y s f = func_by_kind (slice_get (types_of gs) x) (index_kinds gs keeps s ∙ ap (option_map kind_of) f.1)

  cont_before : (x y : ℕ) → IndexMatches gs x y → IsCont gs y → IsCont gs x
  cont_before x y s f = cont_by_kind (slice_get (types_of gs) x) (index_kinds gs keeps s ∙ ap (option_map kind_of) f.1)

  func_behind : (x y : ℕ) → IndexMatches gs x y → IsFunc gs x → IsFunc gs y
  func_behind x y s f = func_by_kind (slice_get (types_of gs) y) (sym (index_kinds gs keeps s) ∙ ap (option_map kind_of) f.1)

  cont_behind : (x y : ℕ) → IndexMatches gs x y → IsCont gs x → IsCont gs y
  cont_behind x y s f = cont_by_kind (slice_get (types_of gs) y) (sym (index_kinds gs keeps s) ∙ ap (option_map kind_of) f.1)

one_of_both : (gs : List RecGroup) (x : ℕ) → IsFunc gs x → IsCont gs x → ⊥
one_of_both gs x f c = let e = f.1 in let d = c.1 in cc

-- ## Heap types

-- a heap type matches itself
pub heap_refl : (gs : List RecGroup) → IsReflexive (HeapMatches gs)
heap_refl gs Func = func
heap_refl gs NoFunc = no_func
heap_refl gs Cont = cont
heap_refl gs NoCont = no_cont
heap_refl gs (Index x) = index (IndexMatches.same (reflexive gs x))

module _ (gs : List RecGroup) (keeps : KeepsKinds gs) where
  heap_joined : {a b c : HeapType} → HeapMatches gs a b → HeapMatches gs b c → HeapMatches gs a c
  heap_joined func func = func
  heap_joined no_func k = k
  heap_joined cont cont = cont
  heap_joined no_cont k = k
  heap_joined (index s) (index t) = index (index_joined gs s t)
  heap_joined (index {x} {y} s) (index_func f) = index_func (func_before gs keeps x y s f)
  heap_joined (index {x} {y} s) (index_cont f) = index_cont (cont_before gs keeps x y s f)
  heap_joined (index_func f) func = index_func f
  heap_joined (index_cont f) cont = index_cont f
  heap_joined no_func_func func = no_func_func
  heap_joined (no_func_index {x} f) (index {y = z} t) = no_func_index (func_behind gs keeps x z t f)
  heap_joined (no_func_index f) (index_func g) = no_func_func
  heap_joined (no_func_index {x} f) (index_cont g) = absurd (one_of_both gs x f g)
  heap_joined no_cont_cont cont = no_cont_cont
  heap_joined (no_cont_index {x} f) (index {y = z} t) = no_cont_index (cont_behind gs keeps x z t f)
  heap_joined (no_cont_index f) (index_cont g) = no_cont_cont
  heap_joined (no_cont_index {x} f) (index_func g) = absurd (one_of_both gs x g f)

-- matching of heap types is transitive
pub heap_trans : (gs : List RecGroup) → KeepsKinds gs → IsTransitive (HeapMatches gs)
heap_trans gs keeps a b c h k = heap_joined gs keeps h k

-- ## Reference types

-- a reference type matches itself
pub ref_refl : (gs : List RecGroup) → IsReflexive (RefMatches gs)
ref_refl gs r = record { nullable = λ t. t; heap = heap_refl gs r.heap }

-- matching of reference types is transitive
pub ref_trans : (gs : List RecGroup) → KeepsKinds gs → IsTransitive (RefMatches gs)
ref_trans gs keeps r q p h k = record { nullable = λ t. k.nullable (h.nullable t); heap = heap_joined gs keeps h.heap k.heap }

-- ## Value types

-- a value type matches itself
pub val_refl : (gs : List RecGroup) → IsReflexive (ValMatches gs)
val_refl gs I32 = i32
val_refl gs I64 = i64
val_refl gs (Ref r) = ref (ref_refl gs r)

val_joined : (gs : List RecGroup) → KeepsKinds gs → {v w z : ValType} → ValMatches gs v w → ValMatches gs w z → ValMatches gs v z
val_joined gs keeps i32 i32 = i32
val_joined gs keeps i64 i64 = i64
val_joined gs keeps (ref {r} {q} h) (ref {q = p} k) = ref (ref_trans gs keeps r q p h k)

-- matching of value types is transitive
pub val_trans : (gs : List RecGroup) → KeepsKinds gs → IsTransitive (ValMatches gs)
val_trans gs keeps v w z h k = val_joined gs keeps h k

-- ## Result types

-- result types match themselves
pub result_refl : (gs : List RecGroup) → IsReflexive (ResultMatches gs)
result_refl gs [] = none
result_refl gs (v ∷ vs) = more (val_refl gs v) (result_refl gs vs)

-- matching of result types is transitive
pub result_trans : (gs : List RecGroup) → KeepsKinds gs → IsTransitive (ResultMatches gs)
result_trans gs keeps vs ws zs h k = joined (val_trans gs keeps) h k

-- ## Function types

-- a function type matches itself
pub func_refl : (gs : List RecGroup) → IsReflexive (FuncMatches gs)
func_refl gs f = record { params = result_refl gs f.params; results = result_refl gs f.results }

-- matching of function types is transitive
pub func_trans : (gs : List RecGroup) → KeepsKinds gs → IsTransitive (FuncMatches gs)
func_trans gs keeps f g h p q = record {
  params = result_trans gs keeps h.params g.params f.params q.params p.params;
  results = result_trans gs keeps f.results g.results h.results p.results q.results;
}
