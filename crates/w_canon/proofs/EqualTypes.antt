-- Equality is an equivalence, and equal types match.
use Rattle.std.proofs.Common.{List, [], ◌∷◌, refl, sym, ◌∙◌}
use Rattle.w_types.specs.declared.types.HeapType.{HeapType}
use Rattle.w_types.specs.declared.types.HeapType.TheVariants.{Func, NoFunc, Cont, NoCont, Index}
use Rattle.w_types.specs.declared.types.ValType.{ValType}
use Rattle.w_types.specs.declared.types.ValType.TheVariants.{I32, I64, Ref}
use Rattle.w_types.specs.declared.types.RecGroup.{RecGroup}
use Rattle.w_canon.specs.Relations.{none, more, IsReflexive, IsSymmetric, IsTransitive}
use Rattle.w_canon.specs.Matching.{HeapMatches, RefMatches, ValMatches, ResultMatches}
use Rattle.w_canon.specs.Matching as matching
use Rattle.w_canon.specs.Equality.{HeapEqual, func, no_func, cont, no_cont, index, ValEqual, i32, i64, ref, ResultEqual}
use Rattle.w_canon.proofs.Equivalent.{reflexive, symmetric, transitive, turned, joined}

-- ## An equivalence

-- a heap type equals itself
heap_equal_refl : (gs : List RecGroup) → IsReflexive (HeapEqual gs)
heap_equal_refl gs Func = func
heap_equal_refl gs NoFunc = no_func
heap_equal_refl gs Cont = cont
heap_equal_refl gs NoCont = no_cont
heap_equal_refl gs (Index x) = index (reflexive gs x)

-- equality of heap types is symmetric
heap_equal_turned : (gs : List RecGroup) {a b : HeapType} → HeapEqual gs a b → HeapEqual gs b a
heap_equal_turned gs func = func
heap_equal_turned gs no_func = no_func
heap_equal_turned gs cont = cont
heap_equal_turned gs no_cont = no_cont
heap_equal_turned gs (index {x} {y} s) = index (symmetric gs x y s)

-- equality of heap types is transitive
heap_equal_joined : (gs : List RecGroup) {a b c : HeapType} → HeapEqual gs a b → HeapEqual gs b c → HeapEqual gs a c
heap_equal_joined gs func func = func
heap_equal_joined gs no_func no_func = no_func
heap_equal_joined gs cont cont = cont
heap_equal_joined gs no_cont no_cont = no_cont
heap_equal_joined gs (index {x} {y} s) (index {y = z} t) = index (transitive gs x y z s t)

-- a value type equals itself
pub val_equal_refl : (gs : List RecGroup) → IsReflexive (ValEqual gs)
val_equal_refl gs I32 = i32
val_equal_refl gs I64 = i64
val_equal_refl gs (Ref r) = ref (record { nullable = refl; heap = heap_equal_refl gs r.heap })

val_equal_turned : (gs : List RecGroup) {v w : ValType} → ValEqual gs v w → ValEqual gs w v
val_equal_turned gs i32 = i32
val_equal_turned gs i64 = i64
val_equal_turned gs (ref h) = ref (record { nullable = sym h.nullable; heap = heap_equal_turned gs h.heap })

-- equality of value types is symmetric
pub val_equal_sym : (gs : List RecGroup) → IsSymmetric (ValEqual gs)
val_equal_sym gs v w h = val_equal_turned gs h

val_equal_joined : (gs : List RecGroup) {v w z : ValType} → ValEqual gs v w → ValEqual gs w z → ValEqual gs v z
val_equal_joined gs i32 i32 = i32
val_equal_joined gs i64 i64 = i64
val_equal_joined gs (ref h) (ref k) = ref (record { nullable = h.nullable ∙ k.nullable; heap = heap_equal_joined gs h.heap k.heap })

-- equality of value types is transitive
pub val_equal_trans : (gs : List RecGroup) → IsTransitive (ValEqual gs)
val_equal_trans gs v w z h k = val_equal_joined gs h k

-- result types equal themselves
pub result_equal_refl : (gs : List RecGroup) → IsReflexive (ResultEqual gs)
result_equal_refl gs [] = none
result_equal_refl gs (v ∷ vs) = more (val_equal_refl gs v) (result_equal_refl gs vs)

-- equality of result types is symmetric
pub result_equal_sym : (gs : List RecGroup) → IsSymmetric (ResultEqual gs)
result_equal_sym gs vs ws h = turned (val_equal_sym gs) h

-- equality of result types is transitive
pub result_equal_trans : (gs : List RecGroup) → IsTransitive (ResultEqual gs)
result_equal_trans gs vs ws zs h k = joined (val_equal_trans gs) h k

-- ## Equal types match

-- equal heap types match
heap_equal_matches : (gs : List RecGroup) {a b : HeapType} → HeapEqual gs a b → HeapMatches gs a b
heap_equal_matches gs func = matching.HeapMatches.func
heap_equal_matches gs no_func = matching.HeapMatches.no_func
heap_equal_matches gs cont = matching.HeapMatches.cont
heap_equal_matches gs no_cont = matching.HeapMatches.no_cont
heap_equal_matches gs (index s) = matching.HeapMatches.index (matching.IndexMatches.same s)

val_equal_below : (gs : List RecGroup) {v w : ValType} → ValEqual gs v w → ValMatches gs v w
val_equal_below gs i32 = matching.ValMatches.i32
val_equal_below gs i64 = matching.ValMatches.i64
val_equal_below gs (ref h) = matching.ValMatches.ref (record { nullable = λ t. sym h.nullable ∙ t; heap = heap_equal_matches gs h.heap })

-- equal value types match
pub val_equal_matches : (gs : List RecGroup) (v w : ValType) → ValEqual gs v w → ValMatches gs v w
val_equal_matches gs v w h = val_equal_below gs h

result_equal_below : (gs : List RecGroup) {vs ws : List ValType} → ResultEqual gs vs ws → ResultMatches gs vs ws
result_equal_below gs none = none
result_equal_below gs (more h t) = more (val_equal_below gs h) (result_equal_below gs t)

-- equal result types match
pub result_equal_matches : (gs : List RecGroup) (vs ws : List ValType) → ResultEqual gs vs ws → ResultMatches gs vs ws
result_equal_matches gs vs ws h = result_equal_below gs h
