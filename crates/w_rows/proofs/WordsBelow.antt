-- Words tell only of types that match, also of those below others.
use Rattle.std.proofs.Common.{◌≡◌, ◌⊎◌, inl, inr, ℕ, ◌+◌, ◌*◌, ◌%◌, ◌<◌, ◌≤◌, nat_lt, Bool, true, false, not, ◌||◌, List, Option, Some, None, bit_and, slice_get, refl, sym, ap, ◌∙◌, eqb-true, ltb-true, arith}
use Rattle.std.specs.Prelude.{◌==◌, IsTrue}
use Rattle.std.proofs.lemmas.Nat.{and_block, and_le_l}
use Rattle.lists.proofs.Tests.{each_of}
use Rattle.w_types.specs.declared.types.HeapType.{HeapType}
use Rattle.w_types.specs.declared.types.HeapType.TheVariants.{Func, NoFunc, Cont, NoCont, Index}
use Rattle.w_types.specs.declared.types.RecGroup.{RecGroup}
use Rattle.w_types.specs.declared.types.ValType.{ValType}
use Rattle.w_types.specs.declared.types.ValType.TheVariants.{I32, I64, Ref}
use Rattle.w_canon.specs.declared.entry.Kind.TheVariants as kind
use Rattle.w_canon.specs.declared.entry.Entry.{Entry}
use Rattle.w_canon.specs.IsClassesOf.{IsClassesOf}
use Rattle.w_canon.specs.Matching.{ValMatches}
use Rattle.w_canon.specs.Tests.{kind_test, heap_test, val_test}
use Rattle.w_canon.proofs.MatchingTests.{val_decided}
use Rattle.w_canon.proofs.TestsOfLists.{and_both}
use Rattle.w_rows.specs.Words.{joined, bit_of, given_class, given_classes, given_mark, given_word, wanted_class, wanted_word, class_in, class_wanted_in, long_test, val_long, IsGiven, IsWanted, IsLength, TellBelow}
use Rattle.w_rows.proofs.WordCases.{BeginsAt, GivenBy, WantedBy, given_found, wanted_found}
use Rattle.w_rows.proofs.WordsOfTypes.{bit_below, null_kept, within_span, words_fit}

-- ## Parts of words

-- words that have no bit in common but of their classes have none in their marks, and none that tells of null
pub low_parts : (a b m n p q : ℕ) → m < 8 → n < 8 → p < 2 → q < 2 → bit_and (joined a m p) (joined b n q) % 16 ≡ 0 → (bit_and m n ≡ 0) × (bit_and p q ≡ 0)
low_parts a b m n p q hm hn hp hq e =
    let one : joined a m p ≡ a * 16 + (m * 2 + p) = omega arith in
    let other : joined b n q ≡ b * 16 + (n * 2 + q) = omega arith in
    let all : bit_and (joined a m p) (joined b n q) ≡ bit_and a b * 16 + bit_and (m * 2 + p) (n * 2 + q) =
    ap (λ (x : ℕ). bit_and x (joined b n q)) one ∙ ap (bit_and (a * 16 + (m * 2 + p))) other ∙ and_block 4 a b (m * 2 + p) (n * 2 + q) (omega arith) (omega arith) in
    let few : bit_and (m * 2 + p) (n * 2 + q) ≤ m * 2 + p = and_le_l (m * 2 + p) (n * 2 + q) in
    let low = and_block 1 m n p q hp hq in
    (omega arith, omega arith)

-- the class of a word
given_at : (c m p : ℕ) → c < 16384 → m < 8 → p < 2 → class_in (joined (given_class c) m p) ≡ c
given_at c m p hc hm hp = omega arith

wanted_at : (d m p : ℕ) → d < 16384 → m < 8 → p < 2 → class_wanted_in (joined (wanted_class d) m p) ≡ d
wanted_at d m p hd hm hp = omega arith

-- ## The length of a span

-- a span of no length is none; else it is that of a type
long_found : (es : List Entry) (m : Bool) (y n : ℕ) → IsLength es (Ref (record { nullable = m; heap = Index y })) n
    → (n ≡ 0) ⊎ ((b : Entry) × (slice_get es y ≡ Some b) × (b.span.from + n ≡ b.span.to) × (b.span.to < 16384))
long_found es m y n h = by (n == 0) refl h
  where
    entry : (o : Option Entry) → slice_get es y ≡ o → IsTrue (long_test o n) → (b : Entry) × (slice_get es y ≡ Some b) × (b.span.from + n ≡ b.span.to) × (b.span.to < 16384)
    entry None e t = absurd (cc)
    entry (Some b) e t = let p = each_of (b.span.from + n == b.span.to) (nat_lt b.span.to 16384) t in (b, e, eqb-true (b.span.from + n) b.span.to p.0, ltb-true b.span.to 16384 p.1)

    by : (z : Bool) → (n == 0) ≡ z → IsTrue (z || val_long es (Ref (record { nullable = m; heap = Index y })) n)
        → (n ≡ 0) ⊎ ((b : Entry) × (slice_get es y ≡ Some b) × (b.span.from + n ≡ b.span.to) × (b.span.to < 16384))
    by true e t = inl (eqb-true n 0 e)
    by false e t = inr (entry (slice_get es y) refl t)

none_long : (es : List Entry) (u : ValType) (n : ℕ) → val_long es u n ≡ false → IsLength es u n → n ≡ 0
none_long es u n e h = by (n == 0) refl h
  where
    by : (z : Bool) → (n == 0) ≡ z → IsTrue (z || val_long es u n) → n ≡ 0
    by true f t = eqb-true n 0 f
    by false f t = let g : false ≡ true = sym e ∙ t in absurd (cc)

-- ## A type below another

-- a span of no length holds nothing
holds_none : (w v n : ℕ) → n ≡ 0 → class_wanted_in v ≤ class_in w → class_in w < class_wanted_in v + n → ⊥
holds_none w v n e le lt = omega arith

given_mark_below : (h : HeapType) → given_mark h < 8
given_mark_below Func = omega arith
given_mark_below NoFunc = omega arith
given_mark_below Cont = omega arith
given_mark_below NoCont = omega arith
given_mark_below (Index x) = omega arith

-- where the bits of all classes are there, the class is behind each span
all_behind : (a : HeapType) (n : Bool) (to : ℕ) → to < 16384 → class_in (given_word (Ref (record { nullable = n; heap = a }))) < to → given_classes a ≡ 268435455 → ⊥
all_behind a n to few lt e =
    let mark = given_mark_below a in
    let bit = bit_below n in
    omega arith

module _ (es : List Entry) where
  -- of the types that name none, what is below a function type
  func_below : (a : HeapType) (y : ℕ) → IsTrue (kind_test es y kind.Func) → bit_and (given_mark a) 2 ≡ 0 → (given_classes a ≡ 268435455 → ⊥) → IsTrue (heap_test es a (Index y))
  func_below Func y k e all = absurd (all refl)
  func_below NoFunc y k e all = k
  func_below Cont y k e all = absurd (omega arith)
  func_below NoCont y k e all = absurd (omega arith)
  func_below (Index x) y k e all = absurd (all refl)

  -- and what is below a continuation type
  cont_below : (a : HeapType) (y : ℕ) → IsTrue (kind_test es y kind.Cont) → bit_and (given_mark a) 4 ≡ 0 → (given_classes a ≡ 268435455 → ⊥) → IsTrue (heap_test es a (Index y))
  cont_below Func y k e all = absurd (omega arith)
  cont_below NoFunc y k e all = absurd (omega arith)
  cont_below Cont y k e all = absurd (all refl)
  cont_below NoCont y k e all = k
  cont_below (Index x) y k e all = absurd (all refl)

  -- a type whose class is not told, where a concrete one is wanted
  alone_below : (t : ValType) (m : Bool) (y d k to : ℕ) → k < 8 → (bit_and 6 k ≡ 0 → ⊥)
      → ((a : HeapType) → bit_and (given_mark a) k ≡ 0 → (given_classes a ≡ 268435455 → ⊥) → IsTrue (heap_test es a (Index y)))
      → bit_and (given_word t) (joined (wanted_class d) k (bit_of (not m))) % 16 ≡ 0 → to < 16384 → class_in (given_word t) < to
      → IsTrue (val_test es t (Ref (record { nullable = m; heap = Index y })))
  alone_below I32 m y d k to l f g e few lt =
      absurd (f (low_parts (given_class 0) (wanted_class d) 6 k 0 (bit_of (not m)) (omega arith) l (omega arith) (bit_below (not m)) e).0)
  alone_below I64 m y d k to l f g e few lt =
      absurd (f (low_parts (given_class 1) (wanted_class d) 6 k 0 (bit_of (not m)) (omega arith) l (omega arith) (bit_below (not m)) e).0)
  alone_below (Ref r) m y d k to l f g e few lt =
      let p = low_parts (given_classes r.heap) (wanted_class d) (given_mark r.heap) k (bit_of r.nullable) (bit_of (not m)) (given_mark_below r.heap) l (bit_below r.nullable) (bit_below (not m)) e in
      and_both (not r.nullable || m) (heap_test es r.heap (Index y)) (null_kept r.nullable m p.1) (g r.heap p.0 (all_behind r.heap r.nullable to few lt))

  -- two concrete types of one kind
  concrete_below : (n m : Bool) (x y c d k l : ℕ) → BeginsAt es x c → BeginsAt es y d → c < 16384 → k < 8 → l < 8
      → bit_and (joined (given_class c) k (bit_of n)) (joined (wanted_class d) l (bit_of (not m))) % 16 ≡ 0
      → (b : Entry) → slice_get es y ≡ Some b → d ≤ class_in (joined (given_class c) k (bit_of n)) → class_in (joined (given_class c) k (bit_of n)) < b.span.to
      → IsTrue (val_test es (Ref (record { nullable = n; heap = Index x })) (Ref (record { nullable = m; heap = Index y })))
  concrete_below n m x y c d k l one other hc hk hl e b at le lt =
      let p = low_parts (given_class c) (wanted_class d) k l (bit_of n) (bit_of (not m)) hk hl (bit_below n) (bit_below (not m)) e in
      let here = given_at c k (bit_of n) hc hk (bit_below n) in
      within_span es n m x y c d one other b at (omega arith) (omega arith) p.1

  -- no given word lacks all bits of a mark
  marked : (t : ValType) (w : ℕ) (b q : ℕ) → q < 2 → GivenBy es t w → bit_and w (joined b 7 q) % 16 ≡ 0 → ⊥
  marked I32 _ b q h GivenBy.alone e = let p = (low_parts (given_class 0) b 6 7 0 q (omega arith) (omega arith) (omega arith) h e).0 in omega arith
  marked I64 _ b q h GivenBy.alone e = let p = (low_parts (given_class 1) b 6 7 0 q (omega arith) (omega arith) (omega arith) h e).0 in omega arith
  marked (Ref r) _ b q h GivenBy.alone e =
      by r.heap (low_parts (given_classes r.heap) b (given_mark r.heap) 7 (bit_of r.nullable) q (given_mark_below r.heap) (omega arith) (bit_below r.nullable) h e).0
    where
      by : (a : HeapType) → bit_and (given_mark a) 7 ≡ 0 → ⊥
      by Func e = omega arith
      by NoFunc e = omega arith
      by Cont e = omega arith
      by NoCont e = omega arith
      by (Index x) e = omega arith
  marked _ _ b q h (GivenBy.of_func {n} {x} {c} o k l) e = let p = (low_parts (given_class c) b 5 7 (bit_of n) q (omega arith) (omega arith) (bit_below n) h e).0 in omega arith
  marked _ _ b q h (GivenBy.of_cont {n} {x} {c} o k l) e = let p = (low_parts (given_class c) b 3 7 (bit_of n) q (omega arith) (omega arith) (bit_below n) h e).0 in omega arith

  -- the end of a span that begins here
  ends_at : (y d n : ℕ) → BeginsAt es y d → (b : Entry) → slice_get es y ≡ Some b → b.span.from + n ≡ b.span.to → d + n ≡ b.span.to
  ends_at y d n (e, f, g, h) b at long =
      let same : e ≡ b = cc in
      let begins : b.span.from ≡ d = ap (λ (z : Entry). z.span.from) (sym same) ∙ g in
      omega arith

  -- where a function type is wanted
  func_wanted : (t : ValType) (m : Bool) (y d w : ℕ) → GivenBy es t w → BeginsAt es y d → IsTrue (kind_test es y kind.Func) → (b : Entry) → slice_get es y ≡ Some b
      → b.span.to < 16384 → bit_and w (joined (wanted_class d) 2 (bit_of (not m))) % 16 ≡ 0 → d ≤ class_in w → class_in w < b.span.to
      → IsTrue (val_test es t (Ref (record { nullable = m; heap = Index y })))
  func_wanted t m y d _ GivenBy.alone o k b at few e le lt =
      alone_below t m y d 2 b.span.to (omega arith) (λ z. omega arith) (λ a. func_below a y k) e few lt
  func_wanted _ m y d _ (GivenBy.of_func {n} {x} {c} p i j) o k b at few e le lt =
      concrete_below n m x y c d 5 2 p o j (omega arith) (omega arith) e b at le lt
  func_wanted _ m y d _ (GivenBy.of_cont {n} {x} {c} p i j) o k b at few e le lt =
      absurd (let q = (low_parts (given_class c) (wanted_class d) 3 2 (bit_of n) (bit_of (not m)) (omega arith) (omega arith) (bit_below n) (bit_below (not m)) e).0 in omega arith)

  -- and where a continuation type is
  cont_wanted : (t : ValType) (m : Bool) (y d w : ℕ) → GivenBy es t w → BeginsAt es y d → IsTrue (kind_test es y kind.Cont) → (b : Entry) → slice_get es y ≡ Some b
      → b.span.to < 16384 → bit_and w (joined (wanted_class d) 4 (bit_of (not m))) % 16 ≡ 0 → d ≤ class_in w → class_in w < b.span.to
      → IsTrue (val_test es t (Ref (record { nullable = m; heap = Index y })))
  cont_wanted t m y d _ GivenBy.alone o k b at few e le lt =
      alone_below t m y d 4 b.span.to (omega arith) (λ z. omega arith) (λ a. cont_below a y k) e few lt
  cont_wanted _ m y d _ (GivenBy.of_cont {n} {x} {c} p i j) o k b at few e le lt =
      concrete_below n m x y c d 3 4 p o j (omega arith) (omega arith) e b at le lt
  cont_wanted _ m y d _ (GivenBy.of_func {n} {x} {c} p i j) o k b at few e le lt =
      absurd (let q = (low_parts (given_class c) (wanted_class d) 5 4 (bit_of n) (bit_of (not m)) (omega arith) (omega arith) (bit_below n) (bit_below (not m)) e).0 in omega arith)

  -- a wanted word that tells no class goes with no span, or lets nothing through
  alone_wanted : (t : ValType) (a : HeapType) (m : Bool) (w n : ℕ) → GivenBy es t w → IsLength es (Ref (record { nullable = m; heap = a })) n
      → bit_and w (wanted_word (Ref (record { nullable = m; heap = a }))) % 16 ≡ 0
      → class_wanted_in (wanted_word (Ref (record { nullable = m; heap = a }))) ≤ class_in w
      → class_in w < class_wanted_in (wanted_word (Ref (record { nullable = m; heap = a }))) + n → ⊥
  alone_wanted t Func m w n g long e le lt = holds_none w (wanted_word (Ref (record { nullable = m; heap = Func }))) n (none_long es (Ref (record { nullable = m; heap = Func })) n refl long) le lt
  alone_wanted t NoFunc m w n g long e le lt = holds_none w (wanted_word (Ref (record { nullable = m; heap = NoFunc }))) n (none_long es (Ref (record { nullable = m; heap = NoFunc })) n refl long) le lt
  alone_wanted t Cont m w n g long e le lt = holds_none w (wanted_word (Ref (record { nullable = m; heap = Cont }))) n (none_long es (Ref (record { nullable = m; heap = Cont })) n refl long) le lt
  alone_wanted t NoCont m w n g long e le lt = holds_none w (wanted_word (Ref (record { nullable = m; heap = NoCont }))) n (none_long es (Ref (record { nullable = m; heap = NoCont })) n refl long) le lt
  alone_wanted t (Index y) m w n g long e le lt = marked t w 268435455 (bit_of (not m)) (bit_below (not m)) g e

  below_by : (t u : ValType) (w v n : ℕ) → GivenBy es t w → WantedBy es u v → IsLength es u n → bit_and w v % 16 ≡ 0 → class_wanted_in v ≤ class_in w
      → class_in w < class_wanted_in v + n → IsTrue (val_test es t u)
  below_by t I32 w _ n g WantedBy.alone long e le lt = absurd (holds_none w (wanted_word I32) n (none_long es I32 n refl long) le lt)
  below_by t I64 w _ n g WantedBy.alone long e le lt = absurd (holds_none w (wanted_word I64) n (none_long es I64 n refl long) le lt)
  below_by t (Ref r) w _ n g WantedBy.alone long e le lt = absurd (alone_wanted t r.heap r.nullable w n g long e le lt)
  below_by t _ w _ n g (WantedBy.of_func {n = m} {x = y} {c = d} o k hd) long e le lt =
      let start = wanted_at d 2 (bit_of (not m)) hd (omega arith) (bit_below (not m)) in
      elim (long_found es m y n long) [
        | inl none ↦ absurd (holds_none w (joined (wanted_class d) 2 (bit_of (not m))) n none le lt)
        | inr h ↦ let to = ends_at y d n o h.0 h.1 h.2 in func_wanted t m y d w g o k h.0 h.1 h.3 e (omega arith) (omega arith)
      ]
  below_by t _ w _ n g (WantedBy.of_cont {n = m} {x = y} {c = d} o k hd) long e le lt =
      let start = wanted_at d 4 (bit_of (not m)) hd (omega arith) (bit_below (not m)) in
      elim (long_found es m y n long) [
        | inl none ↦ absurd (holds_none w (joined (wanted_class d) 4 (bit_of (not m))) n none le lt)
        | inr h ↦ let to = ends_at y d n o h.0 h.1 h.2 in cont_wanted t m y d w g o k h.0 h.1 h.3 e (omega arith) (omega arith)
      ]

  -- words tell of what matches
  pub below_fits : (t u : ValType) (w v n : ℕ) → IsGiven es t w → IsWanted es u v → IsLength es u n → TellBelow w v n → IsTrue (val_test es t u)
  below_fits t u w v n g h long (inl e) = words_fit es t u w v g h e
  below_fits t u w v n g h long (inr p) = below_by t u w v n (given_found es t w g) (wanted_found es u v h) long p.0 p.1 p.2

-- so such types match
pub words_match : (gs : List RecGroup) (es : List Entry) (t u : ValType) (w v n : ℕ) → IsClassesOf gs es → IsGiven es t w → IsWanted es u v → IsLength es u n → TellBelow w v n
    → ValMatches gs t u
words_match gs es t u w v n h g k l e = (val_decided gs es h t u).0 (below_fits es t u w v n g k l e)
