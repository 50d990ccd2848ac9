-- What the tests on imports tell.
use Rattle.std.proofs.Common.{◌≡◌, ℕ, Bool, true, false, not, List, Option, Some, None, slice_get, refl}
use Rattle.std.specs.Prelude.{◌||◌}
use Rattle.std.specs.Bool.{beq}
use Rattle.lists.proofs.Tests.{each_of, implied_decided}
use Rattle.w_types.specs.declared.types.CompType.{CompType}
use Rattle.w_types.specs.declared.types.CompType.TheVariants as comp
use Rattle.w_types.specs.declared.types.FuncType.{FuncType}
use Rattle.w_types.specs.declared.types.HeapType.{HeapType}
use Rattle.w_types.specs.declared.types.HeapType.TheVariants.{Func, NoFunc, Cont, NoCont, Index}
use Rattle.w_types.specs.declared.types.RecGroup.{RecGroup}
use Rattle.w_types.specs.declared.types.RefType.{RefType}
use Rattle.w_types.specs.declared.types.ValType.{ValType}
use Rattle.w_types.specs.declared.types.ValType.TheVariants as val
use Rattle.w_types.specs.Groups.{types_of}
use Rattle.w_canon.specs.Equality.{HeapEqual, RefEqual, ValEqual}
use Rattle.w_canon.specs.Equality as equal
use Rattle.w_canon.specs.Matching.{HeapMatches, RefMatches, ValMatches}
use Rattle.w_canon.specs.Matching as matching
use Rattle.w_linked.specs.Imports.{TypeTests, is_func, is_cont, heap_matches, type_matches, heap_equals, ref_equals, type_equals}
use Rattle.w_linked.specs.Laws.{AreTestsOf}

func_told : (o : Option CompType) → is_func o ≡ true → (f : FuncType) × (o ≡ Some (comp.Func f))
func_told (Some (comp.Func f)) e = (f, refl)
func_told (Some (comp.Cont x)) e = absurd (cc)
func_told None e = absurd (cc)

cont_told : (o : Option CompType) → is_cont o ≡ true → (x : ℕ) × (o ≡ Some (comp.Cont x))
cont_told (Some (comp.Func f)) e = absurd (cc)
cont_told (Some (comp.Cont x)) e = (x, refl)
cont_told None e = absurd (cc)

beq_told : (a b : Bool) → beq a b ≡ true → a ≡ b
beq_told true true e = refl
beq_told false false e = refl
beq_told true false e = absurd (cc)
beq_told false true e = absurd (cc)

module _ (gs : List RecGroup) (tests : TypeTests) (is : AreTestsOf gs tests) where
  -- matching of heap types
  pub heap_told : (h k : HeapType) → heap_matches tests.matches (types_of gs) h k ≡ true → HeapMatches gs h k
  heap_told Func Func e = matching.HeapMatches.func
  heap_told NoFunc Func e = matching.HeapMatches.no_func_func
  heap_told NoFunc NoFunc e = matching.HeapMatches.no_func
  heap_told NoFunc (Index y) e = matching.HeapMatches.no_func_index (func_told (slice_get (types_of gs) y) e)
  heap_told Cont Cont e = matching.HeapMatches.cont
  heap_told NoCont Cont e = matching.HeapMatches.no_cont_cont
  heap_told NoCont NoCont e = matching.HeapMatches.no_cont
  heap_told NoCont (Index y) e = matching.HeapMatches.no_cont_index (cont_told (slice_get (types_of gs) y) e)
  heap_told (Index x) Func e = matching.HeapMatches.index_func (func_told (slice_get (types_of gs) x) e)
  heap_told (Index x) Cont e = matching.HeapMatches.index_cont (cont_told (slice_get (types_of gs) x) e)
  heap_told (Index x) (Index y) e = matching.HeapMatches.index ((is.matches x y).0 e)
  heap_told _ _ e = absurd (cc)

  -- of value types
  pub type_told : (t u : ValType) → type_matches tests.matches (types_of gs) t u ≡ true → ValMatches gs t u
  type_told val.I32 val.I32 e = matching.ValMatches.i32
  type_told val.I64 val.I64 e = matching.ValMatches.i64
  type_told (val.Ref r) (val.Ref q) e =
      let both = each_of (not r.nullable || q.nullable) (heap_matches tests.matches (types_of gs) r.heap q.heap) e in
      matching.ValMatches.ref (record { nullable = (implied_decided r.nullable q.nullable).0 both.0; heap = heap_told r.heap q.heap both.1 })
  type_told _ _ e = absurd (cc)

  heap_equal_told : (h k : HeapType) → heap_equals tests.same h k ≡ true → HeapEqual gs h k
  heap_equal_told Func Func e = equal.HeapEqual.func
  heap_equal_told NoFunc NoFunc e = equal.HeapEqual.no_func
  heap_equal_told Cont Cont e = equal.HeapEqual.cont
  heap_equal_told NoCont NoCont e = equal.HeapEqual.no_cont
  heap_equal_told (Index x) (Index y) e = equal.HeapEqual.index ((is.same x y).0 e)
  heap_equal_told _ _ e = absurd (cc)

  -- equality of reference types
  pub ref_equal_told : (r q : RefType) → ref_equals tests.same r q ≡ true → RefEqual gs r q
  ref_equal_told r q e =
      let both = each_of (beq r.nullable q.nullable) (heap_equals tests.same r.heap q.heap) e in
      record { nullable = beq_told r.nullable q.nullable both.0; heap = heap_equal_told r.heap q.heap both.1 }

  -- of value types
  pub type_equal_told : (t u : ValType) → type_equals tests.same t u ≡ true → ValEqual gs t u
  type_equal_told val.I32 val.I32 e = equal.ValEqual.i32
  type_equal_told val.I64 val.I64 e = equal.ValEqual.i64
  type_equal_told (val.Ref r) (val.Ref q) e = equal.ValEqual.ref (ref_equal_told r q e)
  type_equal_told _ _ e = absurd (cc)
