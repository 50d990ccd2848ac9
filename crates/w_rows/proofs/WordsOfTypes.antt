-- Words tell only of types that match.
use Rattle.std.proofs.Common.{◌≡◌, Option, subst, ℕ, zero, suc, ◌+◌, ◌-◌, ◌*◌, ◌/◌, ◌%◌, ◌<◌, ◌≤◌, ◌^◌, Bool, true, false, not, ◌||◌, ◌&&◌, List, bit_and, slice_get, Some, refl, sym, ap, ◌∙◌, le-leb, lt-ltb, nat_le, arith}
use Rattle.std.specs.Prelude.{◌==◌, IsTrue}
use Rattle.std.proofs.lemmas.Nat.{and_block, and_comm, and_mask}
use Rattle.w_types.specs.declared.types.HeapType.{HeapType}
use Rattle.w_types.specs.declared.types.HeapType.TheVariants.{Func, NoFunc, Cont, NoCont, Index}
use Rattle.w_types.specs.declared.types.ValType.{ValType}
use Rattle.w_types.specs.declared.types.ValType.TheVariants.{I32, I64, Ref}
use Rattle.w_canon.specs.declared.entry.Kind.TheVariants as kind
use Rattle.w_canon.specs.declared.entry.Entry.{Entry}
use Rattle.w_canon.specs.Forest.{span_test}
use Rattle.w_canon.specs.IsClassesOf.{HaveSpans}
use Rattle.w_canon.specs.Tests.{kind_test, one_class_test, one_below_test, same_test, heap_test, val_test, heap_narrow_test, val_narrow_test}
use Rattle.w_canon.proofs.MatchingTests.{class_decided}
use Rattle.w_canon.proofs.TestsOfLists.{and_both}
use Rattle.w_rows.specs.Words.{joined, bit_of, all_classes, given_class, wanted_class, given_classes, given_mark, given_word, IsGiven, wanted_classes, wanted_mark, wanted_word, IsWanted}
use Rattle.w_rows.proofs.WordCases.{BeginsAt, GivenBy, WantedBy, given_found, wanted_found, or_left, or_right}

-- ## Bits

-- a number that has no bit which another one lacks is no greater
no_greater : (k c d : ℕ) → c < 2 ^ k → d < 2 ^ k → bit_and c (2 ^ k - 1 - d) ≡ 0 → c ≤ d
no_greater zero c d a b e = omega arith
no_greater (suc k) c d a b e =
    let split : c ≡ c / 2 * 2 + c % 2 = omega arith in
    let other : 2 ^ suc k - 1 - d ≡ (2 ^ k - 1 - d / 2) * 2 + (1 - d % 2) = omega arith in
    let parts : bit_and c (2 ^ suc k - 1 - d) ≡ bit_and (c / 2) (2 ^ k - 1 - d / 2) * 2 + bit_and (c % 2) (1 - d % 2) =
    ap (λ (n : ℕ). bit_and n (2 ^ suc k - 1 - d)) split ∙ ap (bit_and (c / 2 * 2 + c % 2)) other
    ∙ and_block 1 (c / 2) (2 ^ k - 1 - d / 2) (c % 2) (1 - d % 2) (omega arith) (omega arith) in
    let high : c / 2 ≤ d / 2 = no_greater k (c / 2) (d / 2) (omega arith) (omega arith) (omega arith) in
    let low : bit_and (c % 2) (1 - d % 2) ≡ 0 = omega arith in
    by (c % 2) (d % 2) refl refl low high
  where
    by : (r s : ℕ) → r ≡ c % 2 → s ≡ d % 2 → bit_and r (1 - s) ≡ 0 → c / 2 ≤ d / 2 → c ≤ d
    by zero s f g l h = omega arith
    by (suc zero) zero f g l h = absurd (omega arith)
    by (suc zero) (suc s) f g l h = omega arith
    by (suc (suc r)) s f g l h = absurd (omega arith)

-- the bits of two classes have one in common
pub one_class : (c d : ℕ) → c < 16384 → d < 16384 → bit_and (given_class c) (wanted_class d) ≡ 0 → c ≡ d
one_class c d a b e =
    let parts = and_block 14 c (16383 - d) (16383 - c) d (omega arith) b in
    let below : c ≤ d = no_greater 14 c d a b (omega arith) in
    let swapped : bit_and d (16383 - c) ≡ bit_and (16383 - c) d = and_comm d (16383 - c) in
    let above : d ≤ c = no_greater 14 d c b a (omega arith) in
    omega arith

no_class_given : (c : ℕ) → c < 16384 → bit_and (given_class c) all_classes ≡ 0 → ⊥
no_class_given c a e =
    let m : bit_and (given_class c) all_classes ≡ given_class c % 2 ^ 28 = and_mask (given_class c) 28 in
    omega arith

no_class_wanted : (d : ℕ) → d < 16384 → bit_and all_classes (wanted_class d) ≡ 0 → ⊥
no_class_wanted d a e =
    let m : bit_and (wanted_class d) all_classes ≡ wanted_class d % 2 ^ 28 = and_mask (wanted_class d) 28 in
    let s = and_comm all_classes (wanted_class d) in
    omega arith

-- words that have no bit in common have none in each of their parts
pub parts : (a b m n p q : ℕ) → m < 8 → n < 8 → p < 2 → q < 2 → bit_and (joined a m p) (joined b n q) ≡ 0 →
    (bit_and a b ≡ 0) × ((bit_and m n ≡ 0) × (bit_and p q ≡ 0))
parts a b m n p q hm hn hp hq e =
    let low = and_block 1 (a * 8 + m) (b * 8 + n) p q hp hq in
    let high = and_block 3 a b m n hm hn in
    (omega arith, (omega arith, omega arith))

-- ## Parts of words

pub bit_below : (n : Bool) → bit_of n < 2
bit_below true = omega arith
bit_below false = omega arith

given_mark_below : (h : HeapType) → given_mark h < 8
given_mark_below Func = omega arith
given_mark_below NoFunc = omega arith
given_mark_below Cont = omega arith
given_mark_below NoCont = omega arith
given_mark_below (Index x) = omega arith

pub wanted_mark_below : (h : HeapType) → wanted_mark h < 8
wanted_mark_below Func = omega arith
wanted_mark_below NoFunc = omega arith
wanted_mark_below Cont = omega arith
wanted_mark_below NoCont = omega arith
wanted_mark_below (Index x) = omega arith

-- one that may be null matches none that may not
pub null_kept : (n m : Bool) → bit_and (bit_of n) (bit_of (not m)) ≡ 0 → IsTrue (not n || m)
null_kept true true e = refl
null_kept true false e = absurd (omega arith)
null_kept false m e = refl

-- no reference is an integer, and no integer a reference
mark_given : (h : HeapType) → bit_and (given_mark h) 1 ≡ 0 → ⊥
mark_given Func e = omega arith
mark_given NoFunc e = omega arith
mark_given Cont e = omega arith
mark_given NoCont e = omega arith
mark_given (Index x) e = omega arith

pub mark_wanted : (h : HeapType) → bit_and 6 (wanted_mark h) ≡ 0 → ⊥
mark_wanted Func e = omega arith
mark_wanted NoFunc e = omega arith
mark_wanted Cont e = omega arith
mark_wanted NoCont e = omega arith
mark_wanted (Index x) e = omega arith

-- heap types whose classes are not told match where they have no bit in common
heaps_alone : (es : List Entry) (a b : HeapType) → bit_and (given_classes a) (wanted_classes b) ≡ 0 → bit_and (given_mark a) (wanted_mark b) ≡ 0 →
    IsTrue (heap_narrow_test es a b)
heaps_alone es Func Func c m = refl
heaps_alone es Func NoFunc c m = absurd (omega arith)
heaps_alone es Func Cont c m = absurd (omega arith)
heaps_alone es Func NoCont c m = absurd (omega arith)
heaps_alone es Func (Index y) c m = absurd (omega arith)
heaps_alone es NoFunc Func c m = refl
heaps_alone es NoFunc NoFunc c m = refl
heaps_alone es NoFunc Cont c m = absurd (omega arith)
heaps_alone es NoFunc NoCont c m = absurd (omega arith)
heaps_alone es NoFunc (Index y) c m = absurd (omega arith)
heaps_alone es Cont Func c m = absurd (omega arith)
heaps_alone es Cont NoFunc c m = absurd (omega arith)
heaps_alone es Cont Cont c m = refl
heaps_alone es Cont NoCont c m = absurd (omega arith)
heaps_alone es Cont (Index y) c m = absurd (omega arith)
heaps_alone es NoCont Func c m = absurd (omega arith)
heaps_alone es NoCont NoFunc c m = absurd (omega arith)
heaps_alone es NoCont Cont c m = refl
heaps_alone es NoCont NoCont c m = refl
heaps_alone es NoCont (Index y) c m = absurd (omega arith)
heaps_alone es (Index x) Func c m = absurd (omega arith)
heaps_alone es (Index x) NoFunc c m = absurd (omega arith)
heaps_alone es (Index x) Cont c m = absurd (omega arith)
heaps_alone es (Index x) NoCont c m = absurd (omega arith)
heaps_alone es (Index x) (Index y) c m = absurd (omega arith)

-- so do a function type and another type whose class is not told
func_given : (es : List Entry) (x c : ℕ) (b : HeapType) → IsTrue (kind_test es x kind.Func) → c < 16384 →
    bit_and (given_class c) (wanted_classes b) ≡ 0 → bit_and 5 (wanted_mark b) ≡ 0 → IsTrue (heap_narrow_test es (Index x) b)
func_given es x c Func k l e m = k
func_given es x c NoFunc k l e m = absurd (no_class_given c l e)
func_given es x c Cont k l e m = absurd (omega arith)
func_given es x c NoCont k l e m = absurd (omega arith)
func_given es x c (Index y) k l e m = absurd (omega arith)

cont_given : (es : List Entry) (x c : ℕ) (b : HeapType) → IsTrue (kind_test es x kind.Cont) → c < 16384 →
    bit_and (given_class c) (wanted_classes b) ≡ 0 → bit_and 3 (wanted_mark b) ≡ 0 → IsTrue (heap_narrow_test es (Index x) b)
cont_given es x c Func k l e m = absurd (omega arith)
cont_given es x c NoFunc k l e m = absurd (omega arith)
cont_given es x c Cont k l e m = k
cont_given es x c NoCont k l e m = absurd (no_class_given c l e)
cont_given es x c (Index y) k l e m = absurd (omega arith)

func_wanted : (es : List Entry) (a : HeapType) (y d : ℕ) → IsTrue (kind_test es y kind.Func) → d < 16384 →
    bit_and (given_classes a) (wanted_class d) ≡ 0 → bit_and (given_mark a) 2 ≡ 0 → IsTrue (heap_narrow_test es a (Index y))
func_wanted es Func y d k l e m = absurd (no_class_wanted d l e)
func_wanted es NoFunc y d k l e m = k
func_wanted es Cont y d k l e m = absurd (omega arith)
func_wanted es NoCont y d k l e m = absurd (omega arith)
func_wanted es (Index x) y d k l e m = absurd (omega arith)

cont_wanted : (es : List Entry) (a : HeapType) (y d : ℕ) → IsTrue (kind_test es y kind.Cont) → d < 16384 →
    bit_and (given_classes a) (wanted_class d) ≡ 0 → bit_and (given_mark a) 4 ≡ 0 → IsTrue (heap_narrow_test es a (Index y))
cont_wanted es Func y d k l e m = absurd (omega arith)
cont_wanted es NoFunc y d k l e m = absurd (omega arith)
cont_wanted es Cont y d k l e m = absurd (no_class_wanted d l e)
cont_wanted es NoCont y d k l e m = k
cont_wanted es (Index x) y d k l e m = absurd (omega arith)

-- types whose spans begin at one place are of one class, where spans tell classes apart
same_class : (es : List Entry) → HaveSpans es → (x y c : ℕ) → BeginsAt es x c → BeginsAt es y c → IsTrue (heap_narrow_test es (Index x) (Index y))
same_class es spans x y c (a, f, g, h) (b, i, j, k) =
    let same : a.class ≡ b.class = spans.once x y a b f i (g ∙ sym j) in
    or_right (x == y) _ (ap (λ (o : Option Entry). one_class_test o (slice_get es y)) f ∙ ap (one_class_test (Some a)) i ∙ (class_decided a.class b.class).1 same)

-- a type whose span begins within that of another matches it
under_begins : (es : List Entry) (x y c d n : ℕ) → BeginsAt es x c → BeginsAt es y d → (b : Entry) → slice_get es y ≡ Some b → d ≤ c → c < b.span.to
    → IsTrue (heap_test es (Index x) (Index y))
under_begins es x y c d n (a, f, g, h) (e, i, j, k) b at le lt =
    let same : e ≡ b = cc in
    let begins : b.span.from ≡ d = ap (λ (z : Entry). z.span.from) (sym same) ∙ j in
    let inside : IsTrue (span_test a.span b.span) = and_both (nat_le b.span.from a.span.from) _ (le-leb b.span.from a.span.from (omega (arith, g, begins, le))) (lt-ltb a.span.from b.span.to (omega (arith, g, lt))) in
    or_right (same_test es x y) _ (ap (λ (o : Option Entry). one_below_test o (slice_get es y)) f ∙ ap (one_below_test (Some a)) at ∙ inside)

-- ## Words

-- reference types match where their parts have no bit in common
module _ (es : List Entry) where
  references : (n m : Bool) (a b : HeapType) → bit_and (bit_of n) (bit_of (not m)) ≡ 0 → IsTrue (heap_narrow_test es a b) →
      IsTrue (val_narrow_test es (Ref (record { nullable = n; heap = a })) (Ref (record { nullable = m; heap = b })))
  references n m a b e h = and_both (not n || m) (heap_narrow_test es a b) (null_kept n m e) h

  -- two words whose classes are not told
  both_alone : (t u : ValType) → bit_and (given_word t) (wanted_word u) ≡ 0 → IsTrue (val_narrow_test es t u)
  both_alone I32 I32 e = refl
  both_alone I32 I64 e = absurd (omega arith)
  both_alone I64 I32 e = absurd (omega arith)
  both_alone I64 I64 e = refl
  both_alone I32 (Ref q) e =
      let p = parts (given_class 0) (wanted_classes q.heap) 6 (wanted_mark q.heap) 0 (bit_of (not q.nullable)) (omega arith) (wanted_mark_below q.heap) (omega arith) (bit_below (not q.nullable)) e in
      absurd (mark_wanted q.heap p.1.0)
  both_alone I64 (Ref q) e =
      let p = parts (given_class 1) (wanted_classes q.heap) 6 (wanted_mark q.heap) 0 (bit_of (not q.nullable)) (omega arith) (wanted_mark_below q.heap) (omega arith) (bit_below (not q.nullable)) e in
      absurd (mark_wanted q.heap p.1.0)
  both_alone (Ref r) I32 e =
      let p = parts (given_classes r.heap) (wanted_class 0) (given_mark r.heap) 1 (bit_of r.nullable) 0 (given_mark_below r.heap) (omega arith) (bit_below r.nullable) (omega arith) e in
      absurd (mark_given r.heap p.1.0)
  both_alone (Ref r) I64 e =
      let p = parts (given_classes r.heap) (wanted_class 1) (given_mark r.heap) 1 (bit_of r.nullable) 0 (given_mark_below r.heap) (omega arith) (bit_below r.nullable) (omega arith) e in
      absurd (mark_given r.heap p.1.0)
  both_alone (Ref r) (Ref q) e =
      let p = parts (given_classes r.heap) (wanted_classes q.heap) (given_mark r.heap) (wanted_mark q.heap) (bit_of r.nullable) (bit_of (not q.nullable))
      (given_mark_below r.heap) (wanted_mark_below q.heap) (bit_below r.nullable) (bit_below (not q.nullable)) e in
      references r.nullable q.nullable r.heap q.heap p.1.1 (heaps_alone es r.heap q.heap p.0 p.1.0)

  -- a concrete type that is given, of either kind
  given_decided : (n : Bool) (x c m : ℕ) (u : ValType) → m < 8 → (bit_and m 1 ≡ 0 → ⊥) →
      ((b : HeapType) → bit_and (given_class c) (wanted_classes b) ≡ 0 → bit_and m (wanted_mark b) ≡ 0 → IsTrue (heap_narrow_test es (Index x) b)) →
      bit_and (joined (given_class c) m (bit_of n)) (wanted_word u) ≡ 0 → IsTrue (val_narrow_test es (Ref (record { nullable = n; heap = Index x })) u)
  given_decided n x c m I32 l k f e =
      absurd (k (parts (given_class c) (wanted_class 0) m 1 (bit_of n) 0 l (omega arith) (bit_below n) (omega arith) e).1.0)
  given_decided n x c m I64 l k f e =
      absurd (k (parts (given_class c) (wanted_class 1) m 1 (bit_of n) 0 l (omega arith) (bit_below n) (omega arith) e).1.0)
  given_decided n x c m (Ref q) l k f e =
      let p = parts (given_class c) (wanted_classes q.heap) m (wanted_mark q.heap) (bit_of n) (bit_of (not q.nullable)) l (wanted_mark_below q.heap) (bit_below n) (bit_below (not q.nullable)) e in
      references n q.nullable (Index x) q.heap p.1.1 (f q.heap p.0 p.1.0)

  -- and one that is wanted
  wanted_decided : (t : ValType) (m : Bool) (y d k : ℕ) → k < 8 → (bit_and 6 k ≡ 0 → ⊥) →
      ((a : HeapType) → bit_and (given_classes a) (wanted_class d) ≡ 0 → bit_and (given_mark a) k ≡ 0 → IsTrue (heap_narrow_test es a (Index y))) →
      bit_and (given_word t) (joined (wanted_class d) k (bit_of (not m))) ≡ 0 → IsTrue (val_narrow_test es t (Ref (record { nullable = m; heap = Index y })))
  wanted_decided I32 m y d k l h f e =
      absurd (h (parts (given_class 0) (wanted_class d) 6 k 0 (bit_of (not m)) (omega arith) l (omega arith) (bit_below (not m)) e).1.0)
  wanted_decided I64 m y d k l h f e =
      absurd (h (parts (given_class 1) (wanted_class d) 6 k 0 (bit_of (not m)) (omega arith) l (omega arith) (bit_below (not m)) e).1.0)
  wanted_decided (Ref r) m y d k l h f e =
      let p = parts (given_classes r.heap) (wanted_class d) (given_mark r.heap) k (bit_of r.nullable) (bit_of (not m)) (given_mark_below r.heap) l (bit_below r.nullable) (bit_below (not m)) e in
      references r.nullable m r.heap (Index y) p.1.1 (f r.heap p.0 p.1.0)

  module _ (Q : ValType → ValType → Type 0) (narrow : (t u : ValType) → IsTrue (val_narrow_test es t u) → Q t u)
      (concrete : (n m : Bool) (x y c : ℕ) → BeginsAt es x c → BeginsAt es y c → bit_and (bit_of n) (bit_of (not m)) ≡ 0
      → Q (Ref (record { nullable = n; heap = Index x })) (Ref (record { nullable = m; heap = Index y }))) where
    -- two concrete types of one kind
    wide_decided : (n m : Bool) (x y c d k l : ℕ) → BeginsAt es x c → BeginsAt es y d → c < 16384 → d < 16384 → k < 8 → l < 8 →
        bit_and (joined (given_class c) k (bit_of n)) (joined (wanted_class d) l (bit_of (not m))) ≡ 0 →
        Q (Ref (record { nullable = n; heap = Index x })) (Ref (record { nullable = m; heap = Index y }))
    wide_decided n m x y c d k l one other hc hd hk hl e =
        let p = parts (given_class c) (wanted_class d) k l (bit_of n) (bit_of (not m)) hk hl (bit_below n) (bit_below (not m)) e in
        let same : c ≡ d = one_class c d hc hd p.0 in
        concrete n m x y d (subst (BeginsAt es x) same one) other p.1.1

    cases_fit : (t u : ValType) (w v : ℕ) → GivenBy es t w → WantedBy es u v → bit_and w v ≡ 0 → Q t u
    cases_fit t u _ _ GivenBy.alone WantedBy.alone e = narrow t u (both_alone t u e)
    cases_fit _ u _ _ (GivenBy.of_func {n} {x} {c} o k l) WantedBy.alone e =
        narrow _ u (given_decided n x c 5 u (omega arith) (λ z. omega arith) (λ b. func_given es x c b k l) e)
    cases_fit _ u _ _ (GivenBy.of_cont {n} {x} {c} o k l) WantedBy.alone e =
        narrow _ u (given_decided n x c 3 u (omega arith) (λ z. omega arith) (λ b. cont_given es x c b k l) e)
    cases_fit t _ _ _ GivenBy.alone (WantedBy.of_func {n = m} {x = y} {c = d} o k l) e =
        narrow t _ (wanted_decided t m y d 2 (omega arith) (λ z. omega arith) (λ a. func_wanted es a y d k l) e)
    cases_fit t _ _ _ GivenBy.alone (WantedBy.of_cont {n = m} {x = y} {c = d} o k l) e =
        narrow t _ (wanted_decided t m y d 4 (omega arith) (λ z. omega arith) (λ a. cont_wanted es a y d k l) e)
    cases_fit _ _ _ _ (GivenBy.of_func {n} {x} {c} o k l) (WantedBy.of_func {n = m} {x = y} {c = d} p i j) e =
        wide_decided n m x y c d 5 2 o p l j (omega arith) (omega arith) e
    cases_fit _ _ _ _ (GivenBy.of_cont {n} {x} {c} o k l) (WantedBy.of_cont {n = m} {x = y} {c = d} p i j) e =
        wide_decided n m x y c d 3 4 o p l j (omega arith) (omega arith) e
    cases_fit _ _ _ _ (GivenBy.of_func {n} {x} {c} o k l) (WantedBy.of_cont {n = m} {x = y} {c = d} p i j) e =
        absurd (let q = (parts (given_class c) (wanted_class d) 5 4 (bit_of n) (bit_of (not m)) (omega arith) (omega arith) (bit_below n) (bit_below (not m)) e).1.0 in omega arith)
    cases_fit _ _ _ _ (GivenBy.of_cont {n} {x} {c} o k l) (WantedBy.of_func {n = m} {x = y} {c = d} p i j) e =
        absurd (let q = (parts (given_class c) (wanted_class d) 3 2 (bit_of n) (bit_of (not m)) (omega arith) (omega arith) (bit_below n) (bit_below (not m)) e).1.0 in omega arith)

  -- a word that is given and one that is wanted have no bit in common only where the first type matches the second, with equivalent indices,
  -- where spans tell classes apart
  pub words_fit_narrowly : HaveSpans es → (t u : ValType) (w v : ℕ) → IsGiven es t w → IsWanted es u v → bit_and w v ≡ 0 → IsTrue (val_narrow_test es t u)
  words_fit_narrowly spans t u w v g h e =
      cases_fit (λ a b. IsTrue (val_narrow_test es a b)) (λ a b k. k)
      (λ n m x y c o p k. and_both (not n || m) (heap_narrow_test es (Index x) (Index y)) (null_kept n m k) (same_class es spans x y c o p))
      t u w v (given_found es t w g) (wanted_found es u v h) e

  -- ## The narrow test and the test

  heap_wider : (a b : HeapType) → IsTrue (heap_narrow_test es a b) → IsTrue (heap_test es a b)
  heap_wider Func b h = h
  heap_wider NoFunc b h = h
  heap_wider Cont b h = h
  heap_wider NoCont b h = h
  heap_wider (Index x) Func h = h
  heap_wider (Index x) NoFunc h = h
  heap_wider (Index x) Cont h = h
  heap_wider (Index x) NoCont h = h
  heap_wider (Index x) (Index y) h = or_left (same_test es x y) (one_below_test (slice_get es x) (slice_get es y)) h

  wider_ref : (t : Bool) (a b : HeapType) → IsTrue (t && heap_narrow_test es a b) → IsTrue (t && heap_test es a b)
  wider_ref true a b h = heap_wider a b h
  wider_ref false a b h = h

  -- types that match with equivalent indices match
  pub val_wider : (t u : ValType) → IsTrue (val_narrow_test es t u) → IsTrue (val_test es t u)
  val_wider I32 u h = h
  val_wider I64 u h = h
  val_wider (Ref r) I32 h = h
  val_wider (Ref r) I64 h = h
  val_wider (Ref r) (Ref q) h = wider_ref (not r.nullable || q.nullable) r.heap q.heap h

  -- references to concrete types match where the one's span begins within the other's, and null is kept
  pub within_span : (n m : Bool) (x y c d : ℕ) → BeginsAt es x c → BeginsAt es y d → (b : Entry) → slice_get es y ≡ Some b → d ≤ c → c < b.span.to
      → bit_and (bit_of n) (bit_of (not m)) ≡ 0 → IsTrue (val_test es (Ref (record { nullable = n; heap = Index x })) (Ref (record { nullable = m; heap = Index y })))
  within_span n m x y c d o p b at le lt k = and_both (not n || m) (heap_test es (Index x) (Index y)) (null_kept n m k) (under_begins es x y c d 0 o p b at le lt)

  -- a word that is given and one that is wanted have no bit in common only where the first type matches the second
  pub words_fit : (t u : ValType) (w v : ℕ) → IsGiven es t w → IsWanted es u v → bit_and w v ≡ 0 → IsTrue (val_test es t u)
  words_fit t u w v g h e =
      cases_fit (λ a b. IsTrue (val_test es a b)) val_wider
      (λ n m x y c o p k. within_span n m x y c c o p p.0 p.1 (omega arith) (omega (arith, p.2, p.3)) k)
      t u w v (given_found es t w g) (wanted_found es u v h) e
