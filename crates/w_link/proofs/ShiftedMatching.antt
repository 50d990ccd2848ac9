-- What matches in one file matches among all.
use Rattle.std.proofs.Common.{◌≡◌, ℕ, ◌+◌, List, map, Option, Some, None, slice_get, refl, sym, ap, ◌∙◌, arith}
use Rattle.std.specs.Prelude.{option_map}
use Rattle.std.proofs.lemmas.Option.{slice_get-map}
use Rattle.w_types.specs.declared.types.CompType.{CompType}
use Rattle.w_types.specs.declared.types.FuncType.{FuncType}
use Rattle.w_types.specs.declared.types.HeapType.{HeapType}
use Rattle.w_types.specs.declared.types.RecGroup.{RecGroup}
use Rattle.w_types.specs.declared.types.RefType.{RefType}
use Rattle.w_types.specs.declared.types.SubType.{SubType}
use Rattle.w_types.specs.declared.types.ValType.{ValType}
use Rattle.w_types.specs.Groups.{subtypes_of, composite_of, types_of}
use Rattle.w_canon.specs.Equality.{HeapEqual, RefEqual, ValEqual, ResultEqual}
use Rattle.w_canon.specs.Equality as equal
use Rattle.w_canon.specs.Matching.{IsFunc, IsCont, HasSupertype, IndexMatches, HeapMatches, RefMatches, ValMatches, ResultMatches, FuncMatches}
use Rattle.w_canon.specs.Matching as matching
use Rattle.w_link.specs.Shifted.{heap_shifted, ref_shifted, type_shifted, types_shifted, func_shifted, comp_shifted, sub_shifted}
use Rattle.w_link.specs.Fits.{Stands}
use Rattle.w_link.proofs.ShiftedTypes.{mapped}

module _ (n : ℕ) (gs hs : List RecGroup) (stand : Stands n gs hs) where
  composite_by : (x : ℕ) (o : Option SubType) (t : CompType) → slice_get (subtypes_of gs) x ≡ o → option_map composite_of o ≡ Some t
      → slice_get (types_of hs) (n + x) ≡ Some (comp_shifted n t)
  composite_by x None t is h = absurd (cc)
  composite_by x (Some u) t is h =
      let e : u.composite ≡ t = cc in
      slice_get-map composite_of (subtypes_of hs) (n + x) ∙ ap (option_map composite_of) (stand.type x u is) ∙ ap (λ (c : CompType). Some (comp_shifted n c)) e

  -- the composite type of each index is there
  pub composite_there : (x : ℕ) (t : CompType) → slice_get (types_of gs) x ≡ Some t → slice_get (types_of hs) (n + x) ≡ Some (comp_shifted n t)
  composite_there x t h = composite_by x (slice_get (subtypes_of gs) x) t refl (sym (slice_get-map composite_of (subtypes_of gs) x) ∙ h)

  func_there : (x : ℕ) → IsFunc gs x → IsFunc hs (n + x)
  func_there x f = (func_shifted n f.0, composite_there x _ f.1)

  cont_there : (x : ℕ) → IsCont gs x → IsCont hs (n + x)
  cont_there x f = (n + f.0, composite_there x _ f.1)

  super_there : (x z : ℕ) → HasSupertype gs x z → HasSupertype hs (n + x) (n + z)
  super_there x z h = record {
    type = sub_shifted n h.type;
    is = stand.type x h.type h.is;
    alone = ap (map (λ (y : ℕ). n + y)) h.alone;
    before = omega (arith, h.before);
  }

  pub index_carried : {x y : ℕ} → IndexMatches gs x y → IndexMatches hs (n + x) (n + y)
  index_carried (matching.IndexMatches.same {x} {y} s) = matching.IndexMatches.same (stand.same x y s)
  index_carried (matching.IndexMatches.above {x} {z} h m) = matching.IndexMatches.above (super_there x z h) (index_carried m)

  pub heap_carried : {h k : HeapType} → HeapMatches gs h k → HeapMatches hs (heap_shifted n h) (heap_shifted n k)
  heap_carried matching.HeapMatches.func = matching.HeapMatches.func
  heap_carried matching.HeapMatches.no_func = matching.HeapMatches.no_func
  heap_carried matching.HeapMatches.cont = matching.HeapMatches.cont
  heap_carried matching.HeapMatches.no_cont = matching.HeapMatches.no_cont
  heap_carried (matching.HeapMatches.index s) = matching.HeapMatches.index (index_carried s)
  heap_carried (matching.HeapMatches.index_func {x} f) = matching.HeapMatches.index_func (func_there x f)
  heap_carried (matching.HeapMatches.index_cont {x} f) = matching.HeapMatches.index_cont (cont_there x f)
  heap_carried matching.HeapMatches.no_func_func = matching.HeapMatches.no_func_func
  heap_carried (matching.HeapMatches.no_func_index {x} f) = matching.HeapMatches.no_func_index (func_there x f)
  heap_carried matching.HeapMatches.no_cont_cont = matching.HeapMatches.no_cont_cont
  heap_carried (matching.HeapMatches.no_cont_index {x} f) = matching.HeapMatches.no_cont_index (cont_there x f)

  pub ref_carried : (r q : RefType) → RefMatches gs r q → RefMatches hs (ref_shifted n r) (ref_shifted n q)
  ref_carried r q h = record { nullable = h.nullable; heap = heap_carried h.heap }

  pub val_carried : (t u : ValType) → ValMatches gs t u → ValMatches hs (type_shifted n t) (type_shifted n u)
  val_carried _ _ matching.ValMatches.i32 = matching.ValMatches.i32
  val_carried _ _ matching.ValMatches.i64 = matching.ValMatches.i64
  val_carried _ _ (matching.ValMatches.ref {r} {q} h) = matching.ValMatches.ref (ref_carried r q h)

  pub result_carried : {ts us : List ValType} → ResultMatches gs ts us → ResultMatches hs (types_shifted n ts) (types_shifted n us)
  result_carried h = mapped (type_shifted n) val_carried h

  pub func_carried : (t u : FuncType) → FuncMatches gs t u → FuncMatches hs (func_shifted n t) (func_shifted n u)
  func_carried t u h = record { params = result_carried h.params; results = result_carried h.results }

  heap_equal_carried : {h k : HeapType} → HeapEqual gs h k → HeapEqual hs (heap_shifted n h) (heap_shifted n k)
  heap_equal_carried equal.HeapEqual.func = equal.HeapEqual.func
  heap_equal_carried equal.HeapEqual.no_func = equal.HeapEqual.no_func
  heap_equal_carried equal.HeapEqual.cont = equal.HeapEqual.cont
  heap_equal_carried equal.HeapEqual.no_cont = equal.HeapEqual.no_cont
  heap_equal_carried (equal.HeapEqual.index {x} {y} s) = equal.HeapEqual.index (stand.same x y s)

  pub val_equal_carried : (t u : ValType) → ValEqual gs t u → ValEqual hs (type_shifted n t) (type_shifted n u)
  val_equal_carried _ _ equal.ValEqual.i32 = equal.ValEqual.i32
  val_equal_carried _ _ equal.ValEqual.i64 = equal.ValEqual.i64
  val_equal_carried _ _ (equal.ValEqual.ref h) = equal.ValEqual.ref (record { nullable = h.nullable; heap = heap_equal_carried h.heap })

  pub result_equal_carried : {ts us : List ValType} → ResultEqual gs ts us → ResultEqual hs (types_shifted n ts) (types_shifted n us)
  result_equal_carried h = mapped (type_shifted n) val_equal_carried h
