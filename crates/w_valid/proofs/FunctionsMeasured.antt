-- What the bodies of functions need, one function after another.
use Rattle.std.proofs.Common.{◌≡◌, ℕ, ◌+◌, ◌<◌, ◌≤◌, List, [], ◌∷◌, ◌++◌, length, ◌∙◌, Some, inl, inr, ap, subst, arith}
use Rattle.std.specs.Prelude.{slice_get}
use Rattle.std.proofs.lemmas.Bool.{cases_lt}
use Rattle.std.proofs.lemmas.List.{length-append}
use Rattle.std.proofs.lemmas.Option.{slice_get_within}
use Rattle.lists.proofs.Lists.{get-front, get-behind}
use Rattle.w_syntax.specs.declared.module.Module.{Module}
use Rattle.w_syntax.specs.Functions.{type_of_function, code_of_function}
use Rattle.w_rules.specs.Facts.{height_of}
use Rattle.w_rules.specs.Peak.{depth}
use Rattle.w_rules.specs.Valid.{FunctionValid}
use Rattle.w_valid.specs.Measured.{IsMeasureOf, AreMeasuresBelow, AreMeasures}

-- the item at an index of a list with one more, where that of the new index is known
get_more : (xs : List ℕ) (x n i v : ℕ) → length xs ≡ n → i < n + 1 → (i < n → slice_get xs i ≡ Some v) → (i ≡ n → x ≡ v) → slice_get (xs ++ x ∷ []) i ≡ Some v
get_more xs x n i v len lt old new = elim (cases_lt i n) [
  | inl h ↦ get-front xs (x ∷ []) i (omega (arith, h, len)) ∙ old h
  | inr h ↦
      let at : i ≡ length xs + 0 = omega (arith, len) in
      ap (λ (j : ℕ). slice_get (xs ++ x ∷ []) j) at ∙ get-behind xs (x ∷ []) 0 ∙ ap (λ (y : ℕ). Some y) (new (omega arith))
]

-- a function more
pub one_measured : (m : Module) (n h d : ℕ) (hs ds gs es : List ℕ) → gs ≡ hs ++ h ∷ [] → es ≡ ds ++ d ∷ [] → AreMeasuresBelow m n hs ds → IsMeasureOf m n (h, d) → AreMeasuresBelow m (n + 1) gs es
one_measured m n h d hs ds gs es p q below here = record {
  as_many_heights = omega (arith, ap length p, length-append hs (h ∷ []), below.as_many_heights);
  as_many_depths = omega (arith, ap length q, length-append ds (d ∷ []), below.as_many_depths);
  heights = λ i t f a b lt. ap (λ (xs : List ℕ). slice_get xs i) p ∙ get_more hs h n i (height_of m t f) below.as_many_heights lt
      (λ less. below.heights i t f a b less) (λ (e : i ≡ n). (here t f (subst (λ (j : ℕ). type_of_function m j ≡ Some t) e a) (subst (λ (j : ℕ). code_of_function m j ≡ Some f) e b)).0);
  depths = λ i t f a b lt. ap (λ (xs : List ℕ). slice_get xs i) q ∙ get_more ds d n i (depth f.body) below.as_many_depths lt
      (λ less. below.depths i t f a b less) (λ (e : i ≡ n). (here t f (subst (λ (j : ℕ). type_of_function m j ≡ Some t) e a) (subst (λ (j : ℕ). code_of_function m j ≡ Some f) e b)).1);
}

-- where each function is typed, each has code
all_have_code : (m : Module) (n : ℕ) → length m.codes ≤ n → ((j : ℕ) → j < n → FunctionValid m j) → n ≡ length m.codes
all_have_code m n le typed = elim (cases_lt (length m.codes) n) [
  | inl h ↦ let f = typed (length m.codes) h in absurd (omega (arith, slice_get_within m.codes (length m.codes) f.func f.has_code))
  | inr h ↦ omega arith
]

-- these are all
pub all_measured : (m : Module) (n : ℕ) (hs ds : List ℕ) → length m.codes ≤ n → ((j : ℕ) → j < n → FunctionValid m j) → AreMeasuresBelow m n hs ds → AreMeasures m hs ds
all_measured m n hs ds le typed h = let P : ℕ → Type 0 = λ k. AreMeasuresBelow m k hs ds in subst P (all_have_code m n le typed) h
