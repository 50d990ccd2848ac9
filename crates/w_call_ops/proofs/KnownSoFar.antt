-- What is known of the first functions of a module, while it is found.
use Rattle.std.proofs.Common.{◌≡◌, ◌<◌, ◌≤◌, ◌+◌, ◌^◌, ℕ, zero, suc, List, [], ◌∷◌, ◌++◌, length, Some, ◌⊎◌, inl, inr, slice_get, refl, sym, ap, ◌∙◌, subst, arith, length-append}
use Rattle.std.proofs.lemmas.Option.{slice_get_within, slice_get_past}
use Rattle.w_types.specs.declared.types.FuncType.{FuncType}
use Rattle.w_syntax.specs.declared.module.Func.{Func}
use Rattle.w_syntax.specs.declared.module.Module.{Module}
use Rattle.w_stands.specs.Code.{AllShort, instrs, instrs_in}
use Rattle.w_call_ops.specs.Entering.{IsFunction}
use Rattle.w_call_ops.specs.KnownFunctions.{AreFactsOf, AreOf, facts_of}
use Rattle.w_call_ops.specs.declared.known_functions.FunctionFacts.{FunctionFacts}

-- of the first k functions
pub record FactsSoFar (m : Module) (k : ℕ) (fs : List FunctionFacts) : Type 0 where
  pub as_many : length fs ≡ k
  pub each : (i : ℕ) (t : FuncType) (f : Func) → i < k → IsFunction m i t f → slice_get fs i ≡ Some (facts_of m t f)
  pub short : (i : ℕ) → i < k → length (instrs m i) < 2 ^ 32

-- ## Lists

-- an item in front of others, and the one behind
get_front : {A : Type 0} (xs ys : List A) (i : ℕ) → i < length xs → slice_get (xs ++ ys) i ≡ slice_get xs i
get_front [] ys i h = absurd (omega arith)
get_front (x ∷ xs) ys zero h = refl
get_front (x ∷ xs) ys (suc i) h = get_front xs ys i (omega arith)

get_behind : {A : Type 0} (xs : List A) (y : A) → slice_get (xs ++ y ∷ []) (length xs) ≡ Some y
get_behind [] y = refl
get_behind (x ∷ xs) y = get_behind xs y

-- a number up to another is below it, or it
below_or : (i k : ℕ) → i < k + 1 → (i < k) ⊎ (i ≡ k)
below_or zero zero h = inr refl
below_or zero (suc k) h = inl (omega arith)
below_or (suc i) zero h = absurd (omega arith)
below_or (suc i) (suc k) h = elim (below_or i k (omega arith)) [ inl l ↦ inl (omega (arith, l)) | inr e ↦ inr (ap suc e) ]

-- ## Functions

-- one more
module _ (m : Module) (k : ℕ) (fs : List FunctionFacts) (x : FunctionFacts) (before : FactsSoFar m k fs) (known : AreOf m k x) (few : length (instrs m k) < 2 ^ 32) where
  each_more : (i : ℕ) (t : FuncType) (f : Func) → i < k + 1 → IsFunction m i t f → slice_get (fs ++ x ∷ []) i ≡ Some (facts_of m t f)
  each_more i t f h is = elim (below_or i k h) [
    | inl l ↦ get_front fs (x ∷ []) i (subst (λ (n : ℕ). i < n) (sym before.as_many) l) ∙ before.each i t f l is
    | inr e ↦ ap (slice_get (fs ++ x ∷ [])) (e ∙ sym before.as_many) ∙ get_behind fs x ∙ ap (λ (y : FunctionFacts). Some y) (known t f (subst (λ (n : ℕ). IsFunction m n t f) e is))
  ]

  short_more : (i : ℕ) → i < k + 1 → length (instrs m i) < 2 ^ 32
  short_more i h = elim (below_or i k h) [
    | inl l ↦ before.short i l
    | inr e ↦ subst (λ (n : ℕ). length (instrs m n) < 2 ^ 32) (sym e) few
  ]

  pub one_more : FactsSoFar m (k + 1) (fs ++ x ∷ [])
  one_more = record {
    as_many = let a = length-append fs (x ∷ []) in let b = before.as_many in omega (arith, a, b);
    each = each_more;
    short = short_more;
  }

-- of all functions
pub all_known : (m : Module) (k : ℕ) (fs : List FunctionFacts) → FactsSoFar m k fs → length m.codes ≡ k → AreFactsOf m fs
all_known m k fs h all = record {
  as_many = h.as_many ∙ sym all;
  each = λ i t f is. h.each i t f (subst (λ (n : ℕ). i < n) all (slice_get_within m.codes i f is.code_is)) is;
}

-- no body is long, whatever its index
below_or_past : (i k : ℕ) → (i < k) ⊎ (k ≤ i)
below_or_past i zero = inr (omega arith)
below_or_past zero (suc k) = inl (omega arith)
below_or_past (suc i) (suc k) = elim (below_or_past i k) [ inl l ↦ inl (omega (arith, l)) | inr e ↦ inr (omega (arith, e)) ]

pub all_short : (m : Module) (k : ℕ) (fs : List FunctionFacts) → FactsSoFar m k fs → length m.codes ≡ k → AllShort m
all_short m k fs h all = λ i. elim (below_or_past i k) [
  | inl l ↦ h.short i l
  | inr p ↦ (
      let none = slice_get_past m.codes i (subst (λ (n : ℕ). n ≤ i) (sym all) p) in
      let empty = ap (λ o. length (instrs_in o)) none in
      omega (arith, empty)
      )
]
