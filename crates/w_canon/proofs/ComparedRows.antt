-- Rows of types that are the same, or that compare alike.
use Rattle.std.proofs.Common.{◌≡◌, inl, inr, ℕ, ◌+◌, ◌<◌, ◌≤◌, Bool, true, false, not, ◌&&◌, ◌||◌, List, [], ◌∷◌, ◌++◌, length, take, get_or, IsTrue, refl, sym, ap, ◌∙◌, arith, slice_get, eq-eqb, subst}
use Rattle.std.specs.Bool.{beq}
use Rattle.std.proofs.lemmas.List.{take_more, take_all}
use Rattle.w_types.specs.declared.types.HeapType.{HeapType}
use Rattle.w_types.specs.declared.types.HeapType.TheVariants as heap
use Rattle.w_types.specs.declared.types.ValType.{ValType}
use Rattle.w_types.specs.declared.types.ValType.TheVariants.{I32, I64, Ref}
use Rattle.w_canon.specs.declared.entry.Entry.{Entry}
use Rattle.w_canon.specs.declared.rows.Comparison.{Comparison}
use Rattle.w_canon.specs.declared.rows.Comparison.TheVariants.{Matching, Equality}
use Rattle.w_canon.specs.declared.rows.Pair.{Pair}
use Rattle.w_canon.specs.Relations.{Pairwise, none, more}
use Rattle.w_canon.specs.Tests.{pairwise_test, one_class_test, one_below_test, heap_test, val_test, heap_same_test, val_same_test}
use Rattle.w_canon.specs.Compared.{compared, IsAlike}

-- ## One type

-- a heap type matches itself
heap_matches : (es : List Entry) (h : HeapType) → heap_test es h h ≡ true
heap_matches es heap.Func = refl
heap_matches es heap.NoFunc = refl
heap_matches es heap.Cont = refl
heap_matches es heap.NoCont = refl
heap_matches es (heap.Index x) =
    ap (λ (b : Bool). (b || one_class_test (slice_get es x) (slice_get es x)) || one_below_test (slice_get es x) (slice_get es x)) (eq-eqb x x refl)

may_be_null : (n b : Bool) → b ≡ true → (not n || n) && b ≡ true
may_be_null true b e = e
may_be_null false b e = e

-- a type matches itself
pub type_matches : (es : List Entry) (t : ValType) → val_test es t t ≡ true
type_matches es I32 = refl
type_matches es I64 = refl
type_matches es (Ref r) = may_be_null r.nullable (heap_test es r.heap r.heap) (heap_matches es r.heap)

-- a heap type equals itself
heap_equals : (es : List Entry) (h : HeapType) → heap_same_test es h h ≡ true
heap_equals es heap.Func = refl
heap_equals es heap.NoFunc = refl
heap_equals es heap.Cont = refl
heap_equals es heap.NoCont = refl
heap_equals es (heap.Index x) = ap (λ (b : Bool). b || one_class_test (slice_get es x) (slice_get es x)) (eq-eqb x x refl)

equally_null : (n b : Bool) → b ≡ true → beq n n && b ≡ true
equally_null true b e = e
equally_null false b e = e

-- a type equals itself
pub type_equals : (es : List Entry) (t : ValType) → val_same_test es t t ≡ true
type_equals es I32 = refl
type_equals es I64 = refl
type_equals es (Ref r) = equally_null r.nullable (heap_same_test es r.heap r.heap) (heap_equals es r.heap)

-- a type compares with itself
pub compares_same : (es : List Entry) (how : Comparison) (t : ValType) → compared es how t t ≡ true
compares_same es Matching t = type_matches es t
compares_same es Equality t = type_equals es t

-- where a pair compares, so do types that are the same or those of the pair
pub compares_alike : (es : List Entry) (how : Comparison) (p : Pair) (t u : ValType) → IsTrue (compared es how p.one p.other) → IsAlike p t u → compared es how t u ≡ true
compares_alike es how p t u h (inl e) = ap (compared es how t) (sym e) ∙ compares_same es how t
compares_alike es how p t u h (inr e) = ap (λ (v : ValType). compared es how v u) e.0 ∙ ap (compared es how p.one) e.1 ∙ h

-- ## Rows

-- types compare with themselves
pub row_same : (es : List Entry) (how : Comparison) (ts : List ValType) → pairwise_test (compared es how) ts ts ≡ true
row_same es how [] = refl
row_same es how (t ∷ ts) = ap (λ (b : Bool). b && pairwise_test (compared es how) ts ts) (compares_same es how t) ∙ row_same es how ts

-- where a pair compares, so do rows that are alike but for it
pub row_alike : (es : List Entry) (how : Comparison) (p : Pair) {ts us : List ValType} → IsTrue (compared es how p.one p.other) → Pairwise (IsAlike p) ts us →
    pairwise_test (compared es how) ts us ≡ true
row_alike es how p h none = refl
row_alike es how p h (more {x = t} {y = u} {xs = ts} {ys = us} a r) =
    ap (λ (b : Bool). b && pairwise_test (compared es how) ts us) (compares_alike es how p t u h a) ∙ row_alike es how p h r

-- one more pair at the end
pairwise_end : {A : Type 0} (R : A → A → Type 0) {xs ys : List A} (x y : A) → Pairwise R xs ys → R x y → Pairwise R (xs ++ x ∷ []) (ys ++ y ∷ [])
pairwise_end R x y none r = more r none
pairwise_end R x y (more q h) r = more q (pairwise_end R x y h r)

-- the pairs up to the next one
pub pairwise_next : (R : ValType → ValType → Type 0) (ts us : List ValType) (i : ℕ) (t u : ValType) → i < length ts → i < length us →
    t ≡ get_or ts i t → u ≡ get_or us i u → R t u → Pairwise R (take i ts) (take i us) → Pairwise R (take (i + 1) ts) (take (i + 1) us)
pairwise_next R ts us i t u h k a b r q =
    let e : take i ts ++ t ∷ [] ≡ take (i + 1) ts = ap (λ (x : ValType). take i ts ++ x ∷ []) a ∙ sym (take_more ts i t h) in
    let f : take i us ++ u ∷ [] ≡ take (i + 1) us = ap (λ (x : ValType). take i us ++ x ∷ []) b ∙ sym (take_more us i u k) in
    subst (λ (xs : List ValType). Pairwise R xs (take (i + 1) us)) e
    (subst (λ (ys : List ValType). Pairwise R (take i ts ++ t ∷ []) ys) f (pairwise_end R t u q r))

-- all pairs, behind the last
pub pairwise_whole : (R : ValType → ValType → Type 0) (ts us : List ValType) (i : ℕ) → length ts ≡ length us → length us ≤ i →
    Pairwise R (take i ts) (take i us) → Pairwise R ts us
pairwise_whole R ts us i e h q =
    subst (λ (xs : List ValType). Pairwise R xs us) (take_all i ts (omega arith))
    (subst (λ (ys : List ValType). Pairwise R (take i ts) ys) (take_all i us h) q)

-- the types up to the next one are the same
pub same_next : (ts us : List ValType) (i : ℕ) (t u : ValType) → i < length ts → i < length us →
    t ≡ get_or ts i t → u ≡ get_or us i u → t ≡ u → take i ts ≡ take i us → take (i + 1) ts ≡ take (i + 1) us
same_next ts us i t u h k a b e q =
    take_more ts i t h ∙ ap (λ (x : ValType). take i ts ++ x ∷ []) (sym a ∙ e ∙ b) ∙ ap (λ (xs : List ValType). xs ++ get_or us i u ∷ []) q ∙ sym (take_more us i u k)

-- all types, behind the last
pub same_whole : (ts us : List ValType) (i : ℕ) → length ts ≡ length us → length us ≤ i → take i ts ≡ take i us → ts ≡ us
same_whole ts us i e h q = sym (take_all i ts (omega arith)) ∙ q ∙ take_all i us h
