-- Types of equal groups: those at one position of them are equal.
use Rattle.std.proofs.Common.{inr, ℕ, suc, ◌+◌, ◌<◌, All, List, length, arith}
use Rattle.std.proofs.lemmas.Bool.{ltb-true}
use Rattle.std.proofs.lemmas.List.Elements.{All-head, All-tail}
use Rattle.w_types.specs.declared.types.HeapType.{HeapType}
use Rattle.w_types.specs.declared.types.ValType.{ValType}
use Rattle.w_types.specs.declared.types.CompType.{CompType}
use Rattle.w_types.specs.declared.types.CompType.TheVariants as comp
use Rattle.w_types.specs.declared.types.FuncType.{FuncType}
use Rattle.w_types.specs.declared.types.RecGroup.{RecGroup}
use Rattle.w_canon.specs.Classed.{count}
use Rattle.w_canon.specs.Relations.{Pairwise, none, more}
use Rattle.w_canon.specs.Equality.{HeapEqual, ValEqual, ResultEqual}
use Rattle.w_canon.specs.Equality as equal
use Rattle.w_canon.specs.Equivalence.{AlikeIndex, inside, outside, AlikeHeap, AlikeVal, AlikeComp, Place, AtOnePosition, Same, SameIndex}
use Rattle.w_canon.specs.Equivalence as alike
use Rattle.w_canon.proofs.Supertypes.{same_wider, at_index}
use Rattle.w_rules.specs.Types.{IsValidHeap, IsValidType, IsValidCompType}

-- composite types are equal: function types with equal parameters and results, continuation types of equivalent types
pub data CompEqual (gs : List RecGroup) : CompType → CompType → Type 0 where
  func : {f g : FuncType} → ResultEqual gs f.params g.params → ResultEqual gs f.results g.results → CompEqual gs (comp.Func f) (comp.Func g)
  cont : {x y : ℕ} → SameIndex gs x y → CompEqual gs (comp.Cont x) (comp.Cont y)

-- ## Indices

-- where a group ends
abbrev pub end_of : (gs : List RecGroup) (i : ℕ) → Place gs i → ℕ
end_of gs i P = count P.front + length P.group.types

-- indices below the ends of two equal groups, which are at one position in them or equivalent in front of them, are equivalent
pub alike_same : (n : ℕ) (gs : List RecGroup) → n < length gs → (i j : ℕ) (h : AtOnePosition (Same n gs) n gs i j) (x y : ℕ)
    → x < end_of gs i h.one → y < end_of gs j h.other → AlikeIndex (Same n gs) (count h.one.front) (count h.other.front) x y → SameIndex gs x y
alike_same n gs le i j h x y p q (outside r o k) = inr (same_wider n (length gs) gs (omega arith) x y k)
alike_same n gs le i j h x y p q (inside r o e) =
    let one_position : AtOnePosition (Same n gs) n gs x y = record {
      one = at_index gs i x h.one r (omega arith);
      other = at_index gs j y h.other o (omega arith);
      one_early = h.one_early;
      other_early = h.other_early;
      position = e;
      groups = h.groups;
    } in
    inr (same_wider (suc n) (length gs) gs (omega arith) x y one_position)

-- ## Types

-- where indices below these ends that are alike are equivalent
module _ (gs : List RecGroup) (S : ℕ → ℕ → Type 0) (s t one_end other_end : ℕ)
    (same : (x y : ℕ) → x < one_end → y < other_end → AlikeIndex S s t x y → SameIndex gs x y) where
  alike_heap_equal : {h k : HeapType} → AlikeHeap S s t h k → IsValidHeap one_end h → IsValidHeap other_end k → HeapEqual gs h k
  alike_heap_equal alike.AlikeHeap.func p q = equal.HeapEqual.func
  alike_heap_equal alike.AlikeHeap.no_func p q = equal.HeapEqual.no_func
  alike_heap_equal alike.AlikeHeap.cont p q = equal.HeapEqual.cont
  alike_heap_equal alike.AlikeHeap.no_cont p q = equal.HeapEqual.no_cont
  alike_heap_equal (alike.AlikeHeap.index {x} {y} h) p q = equal.HeapEqual.index (same x y (ltb-true x one_end p) (ltb-true y other_end q) h)

  alike_val_equal : {v w : ValType} → AlikeVal S s t v w → IsValidType one_end v → IsValidType other_end w → ValEqual gs v w
  alike_val_equal alike.AlikeVal.i32 p q = equal.ValEqual.i32
  alike_val_equal alike.AlikeVal.i64 p q = equal.ValEqual.i64
  alike_val_equal (alike.AlikeVal.ref h) p q = equal.ValEqual.ref (record { nullable = h.nullable; heap = alike_heap_equal h.heap p q })

  -- result types that are alike are equal
  alike_result_equal : {vs ws : List ValType} → Pairwise (AlikeVal S s t) vs ws → All (IsValidType one_end) vs → All (IsValidType other_end) ws
      → ResultEqual gs vs ws
  alike_result_equal none p q = none
  alike_result_equal (more {x} {y} {xs} {ys} h k) p q =
      more (alike_val_equal h (All-head (IsValidType one_end) x xs p) (All-head (IsValidType other_end) y ys q))
      (alike_result_equal k (All-tail (IsValidType one_end) x xs p) (All-tail (IsValidType other_end) y ys q))

  -- and so are composite types
  pub alike_comp_equal : (ts : List CompType) {a b : CompType} → AlikeComp S s t a b → IsValidCompType ts one_end a → IsValidCompType ts other_end b → CompEqual gs a b
  alike_comp_equal ts (alike.AlikeComp.func h) p q = CompEqual.func (alike_result_equal h.params p.0 q.0) (alike_result_equal h.results p.1 q.1)
  alike_comp_equal ts (alike.AlikeComp.cont {x} {y} h) p q = CompEqual.cont (same x y p.0 q.0 h)
