-- The words of a type, case by case.
use Rattle.std.proofs.Common.{◌≡◌, Option, subst, ℕ, ◌<◌, nat_lt, Bool, true, false, not, ◌||◌, ◌&&◌, List, slice_get, Some, None, refl, sym, eqb-true, ltb-true}
use Rattle.std.specs.Prelude.{◌==◌, IsTrue}
use Rattle.lists.proofs.Tests.{each_of}
use Rattle.w_types.specs.declared.types.HeapType.{HeapType}
use Rattle.w_types.specs.declared.types.HeapType.TheVariants.{Func, NoFunc, Cont, NoCont, Index}
use Rattle.w_types.specs.declared.types.ValType.{ValType}
use Rattle.w_types.specs.declared.types.ValType.TheVariants.{I32, I64, Ref}
use Rattle.w_canon.specs.declared.entry.Kind.TheVariants as kind
use Rattle.w_canon.specs.declared.entry.Entry.{Entry}
use Rattle.w_canon.specs.Tests.{kind_test}
use Rattle.w_rows.specs.Words.{joined, bit_of, most_classes, given_class, wanted_class, given_word, wanted_word, class_in, class_wanted_in, begins_test, tells_given, IsGiven, tells_wanted, IsWanted}

-- ## Cases

-- the span of type x begins at c, and holds a place
abbrev pub BeginsAt : List Entry → ℕ → ℕ → Type 0
BeginsAt es x c = (e : Entry) × (slice_get es x ≡ Some e) × (e.span.from ≡ c) × (e.span.from < e.span.to)

-- where a type is given: alone, or a concrete type with its class
pub data GivenBy (es : List Entry) : ValType → ℕ → Type 0 where
  alone : {t : ValType} → GivenBy es t (given_word t)
  of_func : {n : Bool} {x c : ℕ} → BeginsAt es x c → IsTrue (kind_test es x kind.Func) → c < most_classes →
      GivenBy es (Ref (record { nullable = n; heap = Index x })) (joined (given_class c) 5 (bit_of n))
  of_cont : {n : Bool} {x c : ℕ} → BeginsAt es x c → IsTrue (kind_test es x kind.Cont) → c < most_classes →
      GivenBy es (Ref (record { nullable = n; heap = Index x })) (joined (given_class c) 3 (bit_of n))

-- and where it is wanted
pub data WantedBy (es : List Entry) : ValType → ℕ → Type 0 where
  alone : {t : ValType} → WantedBy es t (wanted_word t)
  of_func : {n : Bool} {x c : ℕ} → BeginsAt es x c → IsTrue (kind_test es x kind.Func) → c < most_classes →
      WantedBy es (Ref (record { nullable = n; heap = Index x })) (joined (wanted_class c) 2 (bit_of (not n)))
  of_cont : {n : Bool} {x c : ℕ} → BeginsAt es x c → IsTrue (kind_test es x kind.Cont) → c < most_classes →
      WantedBy es (Ref (record { nullable = n; heap = Index x })) (joined (wanted_class c) 4 (bit_of (not n)))

-- ## Tests

either : (b c : Bool) (P : Type 0) → IsTrue (b || c) → (IsTrue b → P) → (IsTrue c → P) → P
either true c P t f g = f refl
either false c P t f g = g t

pub or_left : (b c : Bool) → IsTrue b → IsTrue (b || c)
or_left true c p = refl
or_left false c p = absurd (cc)

pub or_right : (b c : Bool) → IsTrue c → IsTrue (b || c)
or_right true c p = refl
or_right false c p = p

below : (m n : ℕ) → IsTrue (nat_lt m n) → m < n
below m n t = ltb-true m n t

-- what the test of where a span begins tells
pub begins_found : (es : List Entry) (x c : ℕ) → IsTrue (begins_test (slice_get es x) c) → BeginsAt es x c
begins_found es x c t = by (slice_get es x) refl t
  where
    by : (o : Option Entry) → slice_get es x ≡ o → IsTrue (begins_test o c) → BeginsAt es x c
    by None e t = absurd (cc)
    by (Some a) e t = let p = each_of (a.span.from == c) _ t in (a, e, eqb-true a.span.from c p.0, ltb-true a.span.from a.span.to p.1)

module _ (es : List Entry) where
  concrete_found : (x c w : ℕ) (n : Bool) → IsTrue (tells_given es x n c w) → GivenBy es (Ref (record { nullable = n; heap = Index x })) w
  concrete_found x c w n t =
      let p = each_of (begins_test (slice_get es x) c) _ t in
      let q = each_of (nat_lt c most_classes) _ p.1 in
      either (kind_test es x kind.Func && w == joined (given_class c) 5 (bit_of n)) (kind_test es x kind.Cont && w == joined (given_class c) 3 (bit_of n)) _ q.1
      (λ f. let r = each_of (kind_test es x kind.Func) _ f in
      subst (GivenBy es (Ref (record { nullable = n; heap = Index x }))) (sym (eqb-true w _ r.1)) (GivenBy.of_func (begins_found es x c p.0) r.0 (below c most_classes q.0)))
      (λ f. let r = each_of (kind_test es x kind.Cont) _ f in
      subst (GivenBy es (Ref (record { nullable = n; heap = Index x }))) (sym (eqb-true w _ r.1)) (GivenBy.of_cont (begins_found es x c p.0) r.0 (below c most_classes q.0)))

  -- the case of a word
  pub given_found : (t : ValType) (w : ℕ) → IsGiven es t w → GivenBy es t w
  given_found I32 w h = either (w == given_word I32) false _ h (λ e. subst (GivenBy es I32) (sym (eqb-true w (given_word I32) e)) GivenBy.alone) (λ e. absurd (cc))
  given_found I64 w h = either (w == given_word I64) false _ h (λ e. subst (GivenBy es I64) (sym (eqb-true w (given_word I64) e)) GivenBy.alone) (λ e. absurd (cc))
  given_found (Ref r) w h = by r.heap r.nullable h
    where
      plain : (k : HeapType) (n : Bool) → IsTrue (w == given_word (Ref (record { nullable = n; heap = k }))) → GivenBy es (Ref (record { nullable = n; heap = k })) w
      plain k n e = subst (GivenBy es (Ref (record { nullable = n; heap = k }))) (sym (eqb-true w _ e)) GivenBy.alone

      by : (k : HeapType) (n : Bool) → IsGiven es (Ref (record { nullable = n; heap = k })) w → GivenBy es (Ref (record { nullable = n; heap = k })) w
      by Func n h = either (w == given_word (Ref (record { nullable = n; heap = Func }))) false _ h (plain Func n) (λ e. absurd (cc))
      by NoFunc n h = either (w == given_word (Ref (record { nullable = n; heap = NoFunc }))) false _ h (plain NoFunc n) (λ e. absurd (cc))
      by Cont n h = either (w == given_word (Ref (record { nullable = n; heap = Cont }))) false _ h (plain Cont n) (λ e. absurd (cc))
      by NoCont n h = either (w == given_word (Ref (record { nullable = n; heap = NoCont }))) false _ h (plain NoCont n) (λ e. absurd (cc))
      by (Index x) n h = either (w == given_word (Ref (record { nullable = n; heap = Index x }))) _ _ h (plain (Index x) n) (concrete_found x (class_in w) w n)

  wanted_concrete : (x c w : ℕ) (n : Bool) → IsTrue (tells_wanted es x n c w) → WantedBy es (Ref (record { nullable = n; heap = Index x })) w
  wanted_concrete x c w n t =
      let p = each_of (begins_test (slice_get es x) c) _ t in
      let q = each_of (nat_lt c most_classes) _ p.1 in
      either (kind_test es x kind.Func && w == joined (wanted_class c) 2 (bit_of (not n))) (kind_test es x kind.Cont && w == joined (wanted_class c) 4 (bit_of (not n))) _ q.1
      (λ f. let r = each_of (kind_test es x kind.Func) _ f in
      subst (WantedBy es (Ref (record { nullable = n; heap = Index x }))) (sym (eqb-true w _ r.1)) (WantedBy.of_func (begins_found es x c p.0) r.0 (below c most_classes q.0)))
      (λ f. let r = each_of (kind_test es x kind.Cont) _ f in
      subst (WantedBy es (Ref (record { nullable = n; heap = Index x }))) (sym (eqb-true w _ r.1)) (WantedBy.of_cont (begins_found es x c p.0) r.0 (below c most_classes q.0)))

  pub wanted_found : (t : ValType) (w : ℕ) → IsWanted es t w → WantedBy es t w
  wanted_found I32 w h = either (w == wanted_word I32) false _ h (λ e. subst (WantedBy es I32) (sym (eqb-true w (wanted_word I32) e)) WantedBy.alone) (λ e. absurd (cc))
  wanted_found I64 w h = either (w == wanted_word I64) false _ h (λ e. subst (WantedBy es I64) (sym (eqb-true w (wanted_word I64) e)) WantedBy.alone) (λ e. absurd (cc))
  wanted_found (Ref r) w h = by r.heap r.nullable h
    where
      plain : (k : HeapType) (n : Bool) → IsTrue (w == wanted_word (Ref (record { nullable = n; heap = k }))) → WantedBy es (Ref (record { nullable = n; heap = k })) w
      plain k n e = subst (WantedBy es (Ref (record { nullable = n; heap = k }))) (sym (eqb-true w _ e)) WantedBy.alone

      by : (k : HeapType) (n : Bool) → IsWanted es (Ref (record { nullable = n; heap = k })) w → WantedBy es (Ref (record { nullable = n; heap = k })) w
      by Func n h = either (w == wanted_word (Ref (record { nullable = n; heap = Func }))) false _ h (plain Func n) (λ e. absurd (cc))
      by NoFunc n h = either (w == wanted_word (Ref (record { nullable = n; heap = NoFunc }))) false _ h (plain NoFunc n) (λ e. absurd (cc))
      by Cont n h = either (w == wanted_word (Ref (record { nullable = n; heap = Cont }))) false _ h (plain Cont n) (λ e. absurd (cc))
      by NoCont n h = either (w == wanted_word (Ref (record { nullable = n; heap = NoCont }))) false _ h (plain NoCont n) (λ e. absurd (cc))
      by (Index x) n h = either (w == wanted_word (Ref (record { nullable = n; heap = Index x }))) _ _ h (plain (Index x) n) (wanted_concrete x (class_wanted_in w) w n)
