-- What the tests tell: where the entries are those of the types of groups, each test is true exactly where its relation holds.
use Rattle.std.proofs.Common.{◌≡◌, ◌↔◌, ◌⊎◌, inl, inr, ℕ, Bool, true, false, not, ◌||◌, List, [], ◌∷◌, Option, Some, None, slice_get, refl, sym, ap, ◌∙◌}
use Rattle.std.specs.Prelude.{◌==◌, IsTrue}
use Rattle.std.specs.Option.{option_map}
use Rattle.std.specs.Bool.{beq}
use Rattle.std.specs.Cmp.{booleans_Decides, unsigned_Decides}
use Rattle.w_types.specs.declared.types.HeapType.{HeapType}
use Rattle.w_types.specs.declared.types.HeapType.TheVariants.{Func, NoFunc, Cont, NoCont, Index}
use Rattle.w_types.specs.declared.types.RefType.{RefType}
use Rattle.w_types.specs.declared.types.ValType.{ValType}
use Rattle.w_types.specs.declared.types.ValType.TheVariants.{I32, I64, Ref}
use Rattle.w_types.specs.declared.types.FuncType.{FuncType}
use Rattle.w_types.specs.declared.types.CompType.{CompType}
use Rattle.w_types.specs.declared.types.CompType.TheVariants as comp
use Rattle.w_types.specs.declared.types.RecGroup.{RecGroup}
use Rattle.w_canon.specs.declared.entry.Class.{Class}
use Rattle.w_canon.specs.declared.entry.Kind.{Kind}
use Rattle.w_canon.specs.declared.entry.Kind.TheVariants as kind
use Rattle.w_canon.specs.declared.entry.Entry.{Entry}
use Rattle.w_canon.specs.Relations.{Pairwise, none, more}
use Rattle.w_canon.specs.Equivalence.{SameIndex}
use Rattle.w_canon.specs.Matching.{IsFunc, IsCont, IndexMatches, HeapMatches, RefMatches, ValMatches, ResultMatches, FuncMatches, CompMatches}
use Rattle.w_canon.specs.Matching as matching
use Rattle.w_canon.specs.Equality.{HeapEqual, RefEqual, ValEqual, ResultEqual}
use Rattle.w_canon.specs.Equality as equality
use Rattle.w_canon.specs.IsClassesOf.{IsClassesOf}
use Rattle.w_canon.specs.Tests.{pairwise_test, class_test, one_class_test, same_test, one_below_test, index_test, one_kind_test, has_kind_test, kind_test, heap_test, ref_test, val_test, result_test, func_test, comp_test, heap_same_test, ref_same_test, val_same_test, result_same_test}
use Rattle.w_canon.proofs.Orders.{one_class}
use Rattle.w_canon.proofs.ClassesOfTypes.{decided_by_class}
use Rattle.lists.proofs.Tests.{both_decided, either_decided, implied_decided}
use Rattle.w_canon.proofs.Matches.{through, func_by_entry, cont_by_entry}
use Rattle.w_canon.proofs.Supertypes.{matches_within, entry_there}

-- ## Lists

module _ {A : Type 0} (f : A → A → Bool) (R : A → A → Type 0) (decided : (x y : A) → IsTrue (f x y) ↔ R x y) where
  -- where each pair passes, each is related
  pairwise_found : (xs ys : List A) → IsTrue (pairwise_test f xs ys) → Pairwise R xs ys
  pairwise_found [] [] t = none
  pairwise_found [] (y ∷ ys) t = absurd (cc)
  pairwise_found (x ∷ xs) [] t = absurd (cc)
  pairwise_found (x ∷ xs) (y ∷ ys) t =
      let p = (both_decided (f x y) (pairwise_test f xs ys) (decided x y) (λ u. u, λ u. u)).0 t in
      more p.0 (pairwise_found xs ys p.1)

  -- where each pair is related, each passes
  pairwise_holds : {xs ys : List A} → Pairwise R xs ys → IsTrue (pairwise_test f xs ys)
  pairwise_holds none = refl
  pairwise_holds (more {x} {y} {xs} {ys} h t) = (both_decided (f x y) (pairwise_test f xs ys) (decided x y) (λ u. u, λ u. u)).1 (h, pairwise_holds t)

  -- a test of all pairs
  pub pairwise_decided : (xs ys : List A) → IsTrue (pairwise_test f xs ys) ↔ Pairwise R xs ys
  pairwise_decided xs ys = (pairwise_found xs ys, pairwise_holds)

-- ## Classes and kinds

-- classes are equal
pub class_decided : (a b : Class) → IsTrue (class_test a b) ↔ (a ≡ b)
class_decided a b = through
    (both_decided (a.group == b.group) (a.position == b.position) (unsigned_Decides a.group b.group) (unsigned_Decides a.position b.position))
    (λ p. one_class a b p.0 p.1, λ e. (ap (λ (c : Class). c.group) e, ap (λ (c : Class). c.position) e))

-- both are entries, and have one class
abbrev OneClassOf : Option Entry → Option Entry → Type 0
OneClassOf o p = (a : Entry) × (b : Entry) × (o ≡ Some a) × (p ≡ Some b) × (a.class ≡ b.class)

-- entries have one class
one_class_decided : (o p : Option Entry) → IsTrue (one_class_test o p) ↔ OneClassOf o p
one_class_decided None p = (λ t. absurd (cc), λ q. let e = q.2 in absurd (cc))
one_class_decided (Some a) None = (λ t. absurd (cc), λ q. let e = q.3 in absurd (cc))
one_class_decided (Some a) (Some b) = (
  λ t. (a, b, refl, refl, (class_decided a.class b.class).0 t),
  λ q. (class_decided a.class b.class).1 (let e = q.2 in let f = q.3 in let g = q.4 in cc),
)

-- kinds are equal
one_kind_decided : (k l : Kind) → IsTrue (one_kind_test k l) ↔ (k ≡ l)
one_kind_decided kind.Func kind.Func = (λ t. refl, λ e. refl)
one_kind_decided kind.Func kind.Cont = (λ t. absurd (cc), λ e. absurd (cc))
one_kind_decided kind.Cont kind.Func = (λ t. absurd (cc), λ e. absurd (cc))
one_kind_decided kind.Cont kind.Cont = (λ t. refl, λ e. refl)

-- an entry has a kind
has_kind_decided : (o : Option Entry) (k : Kind) → IsTrue (has_kind_test o k) ↔ (option_map (λ (e : Entry). e.kind) o ≡ Some k)
has_kind_decided None k = (λ t. absurd (cc), λ e. absurd (cc))
has_kind_decided (Some e) k = through (one_kind_decided e.kind k) (λ h. ap Some h, λ h. cc)

module _ (gs : List RecGroup) (es : List Entry) (h : IsClassesOf gs es) where
  -- ## Indices

  -- types are equivalent
  pub same_decided : (i j : ℕ) → IsTrue (same_test es i j) ↔ SameIndex gs i j
  same_decided i j = either_decided (i == j) (one_class_test (slice_get es i) (slice_get es j))
      (λ t. inl ((unsigned_Decides i j).0 t))
      (λ f. through (one_class_decided (slice_get es i) (slice_get es j)) (decided_by_class gs es i j h (λ e. let t = (unsigned_Decides i j).1 e in cc)))

  below_found : (i j : ℕ) (o p : Option Entry) → slice_get es i ≡ o → slice_get es j ≡ p → IsTrue (one_below_test o p) → IndexMatches gs i j
  below_found i j None p e f t = absurd (cc)
  below_found i j (Some a) None e f t = absurd (cc)
  below_found i j (Some a) (Some b) e f t = (h.spans i j a b e f).0 t

  -- an index that matches another does so by their spans, where both are of types
  below_holds : (i j : ℕ) (o p : Option Entry) → slice_get es i ≡ o → slice_get es j ≡ p → IndexMatches gs i j → (i ≡ j) ⊎ IsTrue (one_below_test o p)
  below_holds i j None p e f m = elim (matches_within gs m) [
    | inl s ↦ inl s
    | inr w ↦ absurd (let a = entry_there gs es i h w.0 in let g = a.1 in cc)
  ]
  below_holds i j (Some a) None e f m = elim (matches_within gs m) [
    | inl s ↦ inl s
    | inr w ↦ absurd (let b = entry_there gs es j h w.1 in let g = b.1 in cc)
  ]
  below_holds i j (Some a) (Some b) e f m = inr ((h.spans i j a b e f).1 m)

  or_first : (b c : Bool) → IsTrue b → IsTrue (b || c)
  or_first true c t = refl
  or_first false c t = absurd (cc)

  or_second : (b c : Bool) → IsTrue c → IsTrue (b || c)
  or_second true c t = refl
  or_second false c t = t

  or_either : (b c : Bool) (P : Type 0) → IsTrue (b || c) → (IsTrue b → P) → (IsTrue c → P) → P
  or_either true c P t f g = f refl
  or_either false c P t f g = g t

  -- a type matches another
  pub index_decided : (i j : ℕ) → IsTrue (index_test es i j) ↔ IndexMatches gs i j
  index_decided i j = (
    λ t. or_either (same_test es i j) (one_below_test (slice_get es i) (slice_get es j)) (IndexMatches gs i j) t
        (λ s. IndexMatches.same ((same_decided i j).0 s))
        (λ b. below_found i j (slice_get es i) (slice_get es j) refl refl b),
    λ m. elim (below_holds i j (slice_get es i) (slice_get es j) refl refl m) [
      | inl e ↦ or_first (same_test es i j) _ ((same_decided i j).1 (inl e))
      | inr b ↦ or_second (same_test es i j) _ b
    ],
  )

  -- a type is a function type
  pub func_kind_decided : (i : ℕ) → IsTrue (kind_test es i kind.Func) ↔ IsFunc gs i
  func_kind_decided i = through (has_kind_decided (slice_get es i) kind.Func) (func_by_entry gs es i h)

  -- a type is a continuation type
  pub cont_kind_decided : (i : ℕ) → IsTrue (kind_test es i kind.Cont) ↔ IsCont gs i
  cont_kind_decided i = through (has_kind_decided (slice_get es i) kind.Cont) (cont_by_entry gs es i h)

  -- ## Matching

  -- heap types that pass the test match
  heap_found : (a b : HeapType) → IsTrue (heap_test es a b) → HeapMatches gs a b
  heap_found Func Func t = matching.HeapMatches.func
  heap_found Func b t = absurd (cc)
  heap_found NoFunc Func t = matching.HeapMatches.no_func_func
  heap_found NoFunc NoFunc t = matching.HeapMatches.no_func
  heap_found NoFunc (Index y) t = matching.HeapMatches.no_func_index ((func_kind_decided y).0 t)
  heap_found NoFunc b t = absurd (cc)
  heap_found Cont Cont t = matching.HeapMatches.cont
  heap_found Cont b t = absurd (cc)
  heap_found NoCont Cont t = matching.HeapMatches.no_cont_cont
  heap_found NoCont NoCont t = matching.HeapMatches.no_cont
  heap_found NoCont (Index y) t = matching.HeapMatches.no_cont_index ((cont_kind_decided y).0 t)
  heap_found NoCont b t = absurd (cc)
  heap_found (Index x) Func t = matching.HeapMatches.index_func ((func_kind_decided x).0 t)
  heap_found (Index x) Cont t = matching.HeapMatches.index_cont ((cont_kind_decided x).0 t)
  heap_found (Index x) (Index y) t = matching.HeapMatches.index ((index_decided x y).0 t)
  heap_found (Index x) b t = absurd (cc)

  -- heap types that match pass the test
  heap_holds : {a b : HeapType} → HeapMatches gs a b → IsTrue (heap_test es a b)
  heap_holds matching.HeapMatches.func = refl
  heap_holds matching.HeapMatches.no_func = refl
  heap_holds matching.HeapMatches.cont = refl
  heap_holds matching.HeapMatches.no_cont = refl
  heap_holds (matching.HeapMatches.index {x} {y} s) = (index_decided x y).1 s
  heap_holds (matching.HeapMatches.index_func {x} f) = (func_kind_decided x).1 f
  heap_holds (matching.HeapMatches.index_cont {x} f) = (cont_kind_decided x).1 f
  heap_holds matching.HeapMatches.no_func_func = refl
  heap_holds (matching.HeapMatches.no_func_index {x} f) = (func_kind_decided x).1 f
  heap_holds matching.HeapMatches.no_cont_cont = refl
  heap_holds (matching.HeapMatches.no_cont_index {x} f) = (cont_kind_decided x).1 f

  -- heap types match
  pub heap_decided : (a b : HeapType) → IsTrue (heap_test es a b) ↔ HeapMatches gs a b
  heap_decided a b = (heap_found a b, heap_holds)

  -- reference types match
  pub ref_decided : (r q : RefType) → IsTrue (ref_test es r q) ↔ RefMatches gs r q
  ref_decided r q = through
      (both_decided (not r.nullable || q.nullable) (heap_test es r.heap q.heap) (implied_decided r.nullable q.nullable) (heap_decided r.heap q.heap))
      (λ p. record { nullable = p.0; heap = p.1 }, λ (m : RefMatches gs r q). (m.nullable, m.heap))

  -- value types that pass the test match
  val_found : (a b : ValType) → IsTrue (val_test es a b) → ValMatches gs a b
  val_found I32 I32 t = matching.ValMatches.i32
  val_found I32 b t = absurd (cc)
  val_found I64 I64 t = matching.ValMatches.i64
  val_found I64 b t = absurd (cc)
  val_found (Ref r) (Ref q) t = matching.ValMatches.ref ((ref_decided r q).0 t)
  val_found (Ref r) b t = absurd (cc)

  -- value types that match pass the test
  val_holds : {a b : ValType} → ValMatches gs a b → IsTrue (val_test es a b)
  val_holds matching.ValMatches.i32 = refl
  val_holds matching.ValMatches.i64 = refl
  val_holds (matching.ValMatches.ref {r} {q} m) = (ref_decided r q).1 m

  -- value types match
  pub val_decided : (a b : ValType) → IsTrue (val_test es a b) ↔ ValMatches gs a b
  val_decided a b = (val_found a b, val_holds)

  -- result types match
  pub result_decided : (ts us : List ValType) → IsTrue (result_test es ts us) ↔ ResultMatches gs ts us
  result_decided ts us = pairwise_decided (val_test es) (ValMatches gs) val_decided ts us

  -- function types match
  pub func_decided : (f g : FuncType) → IsTrue (func_test es f g) ↔ FuncMatches gs f g
  func_decided f g = through
      (both_decided (result_test es g.params f.params) (result_test es f.results g.results) (result_decided g.params f.params) (result_decided f.results g.results))
      (λ p. record { params = p.0; results = p.1 }, λ (m : FuncMatches gs f g). (m.params, m.results))

  comp_found : (a b : CompType) → IsTrue (comp_test es a b) → CompMatches gs a b
  comp_found (comp.Func f) (comp.Func g) t = matching.CompMatches.func ((func_decided f g).0 t)
  comp_found (comp.Func f) (comp.Cont y) t = absurd (cc)
  comp_found (comp.Cont x) (comp.Func g) t = absurd (cc)
  comp_found (comp.Cont x) (comp.Cont y) t = matching.CompMatches.cont ((index_decided x y).0 t)

  comp_holds : {a b : CompType} → CompMatches gs a b → IsTrue (comp_test es a b)
  comp_holds (matching.CompMatches.func {f} {g} h) = (func_decided f g).1 h
  comp_holds (matching.CompMatches.cont {x} {y} h) = (index_decided x y).1 h

  -- composite types match
  pub comp_decided : (a b : CompType) → IsTrue (comp_test es a b) ↔ CompMatches gs a b
  comp_decided a b = (comp_found a b, comp_holds)

  -- ## Equality

  -- heap types that pass the test are equal
  heap_same_found : (a b : HeapType) → IsTrue (heap_same_test es a b) → HeapEqual gs a b
  heap_same_found Func Func t = equality.HeapEqual.func
  heap_same_found Func b t = absurd (cc)
  heap_same_found NoFunc NoFunc t = equality.HeapEqual.no_func
  heap_same_found NoFunc b t = absurd (cc)
  heap_same_found Cont Cont t = equality.HeapEqual.cont
  heap_same_found Cont b t = absurd (cc)
  heap_same_found NoCont NoCont t = equality.HeapEqual.no_cont
  heap_same_found NoCont b t = absurd (cc)
  heap_same_found (Index x) (Index y) t = equality.HeapEqual.index ((same_decided x y).0 t)
  heap_same_found (Index x) b t = absurd (cc)

  -- heap types that are equal pass the test
  heap_same_holds : {a b : HeapType} → HeapEqual gs a b → IsTrue (heap_same_test es a b)
  heap_same_holds equality.HeapEqual.func = refl
  heap_same_holds equality.HeapEqual.no_func = refl
  heap_same_holds equality.HeapEqual.cont = refl
  heap_same_holds equality.HeapEqual.no_cont = refl
  heap_same_holds (equality.HeapEqual.index {x} {y} s) = (same_decided x y).1 s

  -- heap types are equal
  pub heap_same_decided : (a b : HeapType) → IsTrue (heap_same_test es a b) ↔ HeapEqual gs a b
  heap_same_decided a b = (heap_same_found a b, heap_same_holds)

  -- reference types are equal
  pub ref_same_decided : (r q : RefType) → IsTrue (ref_same_test es r q) ↔ RefEqual gs r q
  ref_same_decided r q = through
      (both_decided (beq r.nullable q.nullable) (heap_same_test es r.heap q.heap) (booleans_Decides r.nullable q.nullable) (heap_same_decided r.heap q.heap))
      (λ p. record { nullable = p.0; heap = p.1 }, λ (m : RefEqual gs r q). (m.nullable, m.heap))

  -- value types that pass the test are equal
  val_same_found : (a b : ValType) → IsTrue (val_same_test es a b) → ValEqual gs a b
  val_same_found I32 I32 t = equality.ValEqual.i32
  val_same_found I32 b t = absurd (cc)
  val_same_found I64 I64 t = equality.ValEqual.i64
  val_same_found I64 b t = absurd (cc)
  val_same_found (Ref r) (Ref q) t = equality.ValEqual.ref ((ref_same_decided r q).0 t)
  val_same_found (Ref r) b t = absurd (cc)

  -- value types that are equal pass the test
  val_same_holds : {a b : ValType} → ValEqual gs a b → IsTrue (val_same_test es a b)
  val_same_holds equality.ValEqual.i32 = refl
  val_same_holds equality.ValEqual.i64 = refl
  val_same_holds (equality.ValEqual.ref {r} {q} m) = (ref_same_decided r q).1 m

  -- value types are equal
  pub val_same_decided : (a b : ValType) → IsTrue (val_same_test es a b) ↔ ValEqual gs a b
  val_same_decided a b = (val_same_found a b, val_same_holds)

  -- result types are equal
  pub result_same_decided : (ts us : List ValType) → IsTrue (result_same_test es ts us) ↔ ResultEqual gs ts us
  result_same_decided ts us = pairwise_decided (val_same_test es) (ValEqual gs) val_same_decided ts us

-- ## As a program tests it

-- types that are equivalent match
pub index_same : (es : List Entry) (i j : ℕ) (b : Bool) → b ≡ same_test es i j → b ≡ true → b ≡ index_test es i j
index_same es i j b e t = t ∙ sym (ap (λ (d : Bool). d || one_below_test (slice_get es i) (slice_get es j)) (sym e ∙ t))

-- others match by their spans
pub index_below : (es : List Entry) (i j : ℕ) (b c : Bool) → b ≡ same_test es i j → b ≡ false → c ≡ one_below_test (slice_get es i) (slice_get es j) → c ≡ index_test es i j
index_below es i j b c e f h = h ∙ sym (ap (λ (d : Bool). d || one_below_test (slice_get es i) (slice_get es j)) (sym e ∙ f))
