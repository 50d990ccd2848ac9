-- What tells which types match which, and which are equivalent: there is one at most, and there can't be none.
use Rattle.std.proofs.Common.{◌≡◌, ◌<◌, ◌⊎◌, ℕ, zero, suc, Bool, true, false, cond, inl, inr, refl, sym, ap, subst, ◌∙◌, arith, List, length}
use Rattle.std.specs.Prelude.{◌↔◌, ◌==◌, IsTrue, nat_lt}
use Rattle.std.proofs.Math.Path.{fun_ext}
use Rattle.std.proofs.lemmas.Bool.{ltb-true, ltb-false, eqb-true, eq-eqb}
use Rattle.std.proofs.lemmas.List.{length-map}
use Rattle.w_types.specs.declared.types.RecGroup.{RecGroup}
use Rattle.w_types.specs.Groups.{subtypes_of, composite_of, types_of}
use Rattle.w_syntax.specs.declared.module.Module.{Module}
use Rattle.w_canon.specs.Equivalence.{Same, SameIndex}
use Rattle.w_canon.specs.Matching.{IndexMatches, same}
use Rattle.w_canon.proofs.Places.{within_all}
use Rattle.w_canon.proofs.Supertypes.{matches_within}
use Rattle.w_linked.specs.Imports.{TypeTests}
use Rattle.w_linked.specs.Laws.{AreTestsOf}
use Rattle.w_reduce.specs.Program.{Program, IsProgram}

-- ## One at most

-- tests of one fact agree
agree : (P : Type 0) (a b : Bool) → IsTrue a ↔ P → IsTrue b ↔ P → a ≡ b
agree P true true h k = refl
agree P true false h k = absurd (let e = k.1 (h.0 refl) in cc)
agree P false true h k = absurd (let e = h.1 (k.0 refl) in cc)
agree P false false h k = refl

abbrev made : Module → (ℕ → ℕ → Bool) → Program
made m matches = record { source = m; matches = matches }

pub one_program : (m : Module) (p q : Program) → p.source ≡ m → q.source ≡ m → IsProgram p → IsProgram q → p ≡ q
one_program m p q a b h k =
    let sources : p.source ≡ q.source = a ∙ sym b in
    let tests : p.matches ≡ q.matches =
    fun_ext (λ i. fun_ext (λ j. agree (IndexMatches q.source.types i j) (p.matches i j) (q.matches i j) (let f = h i j in rw sources at f) (k i j))) in
    ap (λ (n : Module). made n p.matches) sources ∙ ap (made q.source) tests

abbrev tests_by : (ℕ → ℕ → Bool) → (ℕ → ℕ → Bool) → TypeTests
tests_by one other = record { same = one; matches = other }

pub one_tests : (gs : List RecGroup) (t u : TypeTests) → AreTestsOf gs t → AreTestsOf gs u → t ≡ u
one_tests gs t u h k =
    let equivalence : t.same ≡ u.same = fun_ext (λ i. fun_ext (λ j. agree (SameIndex gs i j) (t.same i j) (u.same i j) (h.same i j) (k.same i j))) in
    let matching : t.matches ≡ u.matches = fun_ext (λ i. fun_ext (λ j. agree (IndexMatches gs i j) (t.matches i j) (u.matches i j) (h.matches i j) (k.matches i j))) in
    ap (λ (f : ℕ → ℕ → Bool). tests_by f t.matches) equivalence ∙ ap (tests_by u.same) matching

-- ## There can't be none

-- a first value, and then those of f
abbrev shifted : {A : Type 0} → A → (ℕ → A) → ℕ → A
shifted a f zero = a
shifted a f (suc i) = f i

-- where at no place there can be no value, there can't be no values at the first n places
choose : {A : Type 0} → A → (n : ℕ) (R : ℕ → A → Type 0) → ((i : ℕ) → ((a : A) → R i a → ⊥) → ⊥) → ((f : ℕ → A) → ((i : ℕ) → i < n → R i (f i)) → ⊥) → ⊥
choose d zero R each none = none (λ _. d) (λ i lt. absurd (omega (arith, lt)))
choose {A = A} d (suc n) R each none =
    each 0 (λ a first. choose d n (λ i. R (suc i)) (λ i. each (suc i)) (λ f rest. none (shifted a f) (holds a f first rest)))
  where
    holds : (a : A) (f : ℕ → A) → R 0 a → ((i : ℕ) → i < n → R (suc i) (f i)) → (i : ℕ) → i < suc n → R i (shifted a f i)
    holds a f first rest zero lt = first
    holds a f first rest (suc i) lt = rest i (omega (arith, lt))

-- a fact can't have no test
tested : (P : Type 0) → ((b : Bool) → IsTrue b ↔ P → ⊥) → ⊥
tested P none = none false (λ e. absurd (cc), λ h. absurd (none true (λ _. h, λ _. refl)))

by_test : (P : Type 0) (b x y : Bool) → (b ≡ true → IsTrue x ↔ P) → (b ≡ false → IsTrue y ↔ P) → IsTrue (cond b x y) ↔ P
by_test P true x y first second = first refl
by_test P false x y first second = second refl

-- R holds of each index and itself, and else of two below n
record IsBelow (n : ℕ) (R : ℕ → ℕ → Type 0) : Type 0 where
  itself : (i : ℕ) → R i i
  below : (i j : ℕ) → R i j → (i ≡ j) ⊎ ((i < n) × (j < n))

module _ (n : ℕ) (R : ℕ → ℕ → Type 0) (b : IsBelow n R) where
  outside : (i j : ℕ) → ((i < n) × (j < n) → ⊥) → IsTrue (i == j) ↔ R i j
  outside i j none = (λ t. subst (R i) (eqb-true i j t) (b.itself i), only_equal)
    where
      only_equal : R i j → IsTrue (i == j)
      only_equal r = elim (b.below i j r) [ inl e ↦ eq-eqb i j e | inr w ↦ absurd (none w) ]

  abbrev test : (ℕ → ℕ → Bool) → ℕ → ℕ → Bool
  test f i j = cond (nat_lt i n) (cond (nat_lt j n) (f i j) (i == j)) (i == j)

  tells : (f : ℕ → ℕ → Bool) → ((i : ℕ) → i < n → (j : ℕ) → j < n → IsTrue (f i j) ↔ R i j) → (i j : ℕ) → IsTrue (test f i j) ↔ R i j
  tells f inside i j =
      by_test (R i j) (nat_lt i n) (cond (nat_lt j n) (f i j) (i == j)) (i == j)
      (λ one. by_test (R i j) (nat_lt j n) (f i j) (i == j)
      (λ other. inside i (ltb-true i n one) j (ltb-true j n other))
      (λ other. outside i j (λ lt. let le = ltb-false j n other in omega (arith, le, lt.1))))
      (λ one. outside i j (λ lt. let le = ltb-false i n one in omega (arith, le, lt.0)))

  -- R can't have no test
  some_test : ((f : ℕ → ℕ → Bool) → ((i j : ℕ) → IsTrue (f i j) ↔ R i j) → ⊥) → ⊥
  some_test none =
      choose (λ (_ : ℕ). false) n (λ i g. (j : ℕ) → j < n → IsTrue (g j) ↔ R i j)
      (λ i. choose false n (λ j b. IsTrue b ↔ R i j) (λ j. tested (R i j)))
      (λ f inside. none (test f) (tells f inside))

-- matching is told of the types that are there
matching_below : (gs : List RecGroup) → IsBelow (length (types_of gs)) (IndexMatches gs)
matching_below gs = record {
  itself = λ i. same (inl refl);
  below = λ i j m.
      let count = length-map (subtypes_of gs) composite_of in
      elim (matches_within gs m) [
        | inl e ↦ inl e
        | inr w ↦ (let one = w.0 in let other = w.1 in inr (omega (arith, one, count), omega (arith, other, count)))
      ];
}

-- and so is equivalence
equivalence_below : (gs : List RecGroup) → IsBelow (length (types_of gs)) (SameIndex gs)
equivalence_below gs = record { itself = λ i. inl refl; below = by }
  where
    count : length (types_of gs) ≡ length (subtypes_of gs)
    count = length-map (subtypes_of gs) composite_of

    there : (n i j : ℕ) → Same n gs i j → (i < length (types_of gs)) × (j < length (types_of gs))
    there zero i j h = absurd h
    there (suc n) i j h = let one = within_all gs i h.one in let other = within_all gs j h.other in (omega (arith, one, count), omega (arith, other, count))

    by : (i j : ℕ) → SameIndex gs i j → (i ≡ j) ⊎ ((i < length (types_of gs)) × (j < length (types_of gs)))
    by i j (inl e) = inl e
    by i j (inr h) = inr (there (length gs) i j h)

pub some_program : (m : Module) → ((p : Program) → p.source ≡ m → IsProgram p → ⊥) → ⊥
some_program m none =
    some_test (length (types_of m.types)) (IndexMatches m.types) (matching_below m.types) (λ f tells. none (made m f) refl tells)

pub some_tests : (gs : List RecGroup) → ((t : TypeTests) → AreTestsOf gs t → ⊥) → ⊥
some_tests gs none =
    let n = length (types_of gs) in
    some_test n (SameIndex gs) (equivalence_below gs) (λ f equivalent.
    some_test n (IndexMatches gs) (matching_below gs) (λ g matching. none (tests_by f g) (record { same = equivalent; matches = matching })))
