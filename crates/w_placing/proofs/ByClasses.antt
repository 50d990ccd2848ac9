-- Tests on types by their classes are the tests of the definition of linking.
use Rattle.std.proofs.Common.{◌≡◌, ◌↔◌, ℕ, zero, suc, Bool, true, false, not, ◌&&◌, List, [], ◌∷◌, map, IsTrue, refl, sym, ap, ◌∙◌, Option, Some, None, slice_get}
use Rattle.std.specs.Prelude.{◌||◌}
use Rattle.std.specs.Option.{option_map}
use Rattle.std.proofs.Math.Path.{fun_ext}
use Rattle.w_types.specs.declared.types.CompType.{CompType}
use Rattle.w_types.specs.declared.types.CompType.TheVariants as comp
use Rattle.w_types.specs.declared.types.HeapType.{HeapType}
use Rattle.w_types.specs.declared.types.HeapType.TheVariants.{Func, NoFunc, Cont, NoCont, Index}
use Rattle.w_types.specs.declared.types.RecGroup.{RecGroup}
use Rattle.w_types.specs.declared.types.ValType.{ValType}
use Rattle.w_types.specs.declared.types.ValType.TheVariants as val
use Rattle.w_types.specs.Groups.{types_of}
use Rattle.w_syntax.specs.declared.module.Mutability.{Mutability}
use Rattle.w_syntax.specs.declared.module.Mutability.TheVariants.{Const, Var}
use Rattle.w_canon.specs.declared.entry.Entry.{Entry}
use Rattle.w_canon.specs.declared.entry.Kind.{Kind}
use Rattle.w_canon.specs.declared.entry.Kind.TheVariants as kind
use Rattle.w_canon.specs.Entries.{kind_of}
use Rattle.w_canon.specs.Equivalence.{SameIndex}
use Rattle.w_canon.specs.IsClassesOf.{IsClassesOf}
use Rattle.w_canon.specs.Matching.{IndexMatches}
use Rattle.w_canon.specs.Tests.{same_test, index_test, has_kind_test, heap_test, val_test}
use Rattle.w_canon.proofs.MatchingTests.{same_decided, index_decided}
use Rattle.w_linked.specs.Imports.{TypeTests, is_func, is_cont, heap_matches, type_matches, kind_fits}
use Rattle.w_linked.specs.Laws.{AreTestsOf}
use Rattle.w_placing.specs.Tests.{tests_of}

-- ## Kinds

-- an element of a mapped list
mapped_at : {A B : Type 0} (f : A → B) (xs : List A) (i : ℕ) → slice_get (map f xs) i ≡ option_map f (slice_get xs i)
mapped_at f [] i = refl
mapped_at f (x ∷ xs) zero = refl
mapped_at f (x ∷ xs) (suc i) = mapped_at f xs i

-- a function type has an entry of that kind
func_by_kind : (o : Option Entry) (p : Option CompType) → option_map (λ (e : Entry). e.kind) o ≡ option_map kind_of p → is_func p ≡ has_kind_test o kind.Func
func_by_kind None None e = refl
func_by_kind None (Some t) e = absurd (cc)
func_by_kind (Some a) None e = absurd (cc)
func_by_kind (Some a) (Some (comp.Func f)) e = let same : a.kind ≡ kind.Func = cc in ap (λ (k : Kind). has_kind_test (Some (record a { kind = k })) kind.Func) (sym same)
func_by_kind (Some a) (Some (comp.Cont x)) e = let same : a.kind ≡ kind.Cont = cc in ap (λ (k : Kind). has_kind_test (Some (record a { kind = k })) kind.Func) (sym same)

-- and a continuation type
cont_by_kind : (o : Option Entry) (p : Option CompType) → option_map (λ (e : Entry). e.kind) o ≡ option_map kind_of p → is_cont p ≡ has_kind_test o kind.Cont
cont_by_kind None None e = refl
cont_by_kind None (Some t) e = absurd (cc)
cont_by_kind (Some a) None e = absurd (cc)
cont_by_kind (Some a) (Some (comp.Func f)) e = let same : a.kind ≡ kind.Func = cc in ap (λ (k : Kind). has_kind_test (Some (record a { kind = k })) kind.Cont) (sym same)
cont_by_kind (Some a) (Some (comp.Cont x)) e = let same : a.kind ≡ kind.Cont = cc in ap (λ (k : Kind). has_kind_test (Some (record a { kind = k })) kind.Cont) (sym same)

module _ (gs : List RecGroup) (es : List Entry) (is : IsClassesOf gs es) where
  -- each type has an entry of its kind
  kinds_at : (x : ℕ) → option_map (λ (e : Entry). e.kind) (slice_get es x) ≡ option_map kind_of (slice_get (types_of gs) x)
  kinds_at x = sym (mapped_at (λ (e : Entry). e.kind) es x) ∙ ap (λ (ks : List Kind). slice_get ks x) is.kinds ∙ mapped_at kind_of (types_of gs) x

  -- type x is a function type
  func_at : (x : ℕ) → is_func (slice_get (types_of gs) x) ≡ has_kind_test (slice_get es x) kind.Func
  func_at x = func_by_kind (slice_get es x) (slice_get (types_of gs) x) (kinds_at x)

  -- type x is a continuation type
  cont_at : (x : ℕ) → is_cont (slice_get (types_of gs) x) ≡ has_kind_test (slice_get es x) kind.Cont
  cont_at x = cont_by_kind (slice_get es x) (slice_get (types_of gs) x) (kinds_at x)

  -- ## Matching

  -- heap types
  heap_match : (h k : HeapType) → heap_matches (index_test es) (types_of gs) h k ≡ heap_test es h k
  heap_match Func Func = refl
  heap_match NoFunc Func = refl
  heap_match NoFunc NoFunc = refl
  heap_match NoFunc (Index y) = func_at y
  heap_match Cont Cont = refl
  heap_match NoCont Cont = refl
  heap_match NoCont NoCont = refl
  heap_match NoCont (Index y) = cont_at y
  heap_match (Index x) Func = func_at x
  heap_match (Index x) Cont = cont_at x
  heap_match (Index x) (Index y) = refl
  heap_match Func k = refl
  heap_match NoFunc k = refl
  heap_match Cont k = refl
  heap_match NoCont k = refl
  heap_match (Index x) k = refl

  -- value types
  type_match : (t u : ValType) → type_matches (index_test es) (types_of gs) t u ≡ val_test es t u
  type_match val.I32 val.I32 = refl
  type_match val.I32 u = refl
  type_match val.I64 val.I64 = refl
  type_match val.I64 u = refl
  type_match (val.Ref r) (val.Ref q) = ap (λ (b : Bool). (not r.nullable || q.nullable) && b) (heap_match r.heap q.heap)
  type_match (val.Ref r) u = refl

  -- a constant's type matches
  pub const_fits : (w m : Mutability) (k t : ValType) (b : Bool) → w ≡ Const → m ≡ Const → b ≡ val_test es t k → b ≡ kind_fits (tests_of es) (types_of gs) w m k t
  const_fits Const Const k t b e f h = h ∙ sym (type_match t k)
  const_fits Const Var k t b e f h = absurd (cc)
  const_fits Var m k t b e f h = absurd (cc)

  -- ## All tests

  -- tests of one fact agree
  agree : (P : Type 0) (a b : Bool) → IsTrue a ↔ P → IsTrue b ↔ P → a ≡ b
  agree P true true h k = refl
  agree P true false h k = absurd (let e = k.1 (h.0 refl) in cc)
  agree P false true h k = absurd (let e = h.1 (k.0 refl) in cc)
  agree P false false h k = refl

  -- tests by their two parts
  made : (ℕ → ℕ → Bool) → (ℕ → ℕ → Bool) → TypeTests
  made s m = record { same = s; matches = m }

  -- there are no others
  pub only_tests : (tests : TypeTests) → AreTestsOf gs tests → tests ≡ tests_of es
  unfolding made
  only_tests tests h =
      let same : tests.same ≡ same_test es = fun_ext (λ i. fun_ext (λ j. agree (SameIndex gs i j) (tests.same i j) (same_test es i j) (h.same i j) (same_decided gs es is i j))) in
      let matches : tests.matches ≡ index_test es = fun_ext (λ i. fun_ext (λ j. agree (IndexMatches gs i j) (tests.matches i j) (index_test es i j) (h.matches i j) (index_decided gs es is i j))) in
      ap (λ (s : ℕ → ℕ → Bool). made s tests.matches) same ∙ ap (made (same_test es)) matches
