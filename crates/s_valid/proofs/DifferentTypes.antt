-- The types of the module of a script are different, and different types of a list are no more than it has.
use Rattle.std.proofs.Common.{◌≡◌, ◌⊎◌, inl, inr, suc, ◌<◌, ◌≤◌, Bool, true, false, List, [], ◌∷◌, ◌++◌, length, if◌then◌else◌, refl, sym, ap, ◌∙◌, subst, arith}
use Rattle.std.specs.Prelude.{nat_lt}
use Rattle.std.proofs.lemmas.Bool.{ltb-false}
use Rattle.w_types.specs.declared.types.CompType.{CompType}
use Rattle.s_syntax.specs.declared.script.Declaration.{Declaration}
use Rattle.s_index.specs.Types.{same_type, place, with_type, with_types, first_types, types_for_all}
use Rattle.s_index.specs.Indices.{function_types, type_table, continuations}
use Rattle.s_index.specs.Handled.{handled}
use Rattle.s_valid.proofs.MadeOnce.{IsThere, one_type, here, behind, there_cases, there_only, there_either}

-- ## Types that are made once are different

-- each is none of those behind it
abbrev pub AreDifferent : List CompType → Type 0
AreDifferent [] = Unit {0}
AreDifferent (t ∷ ts) = (IsThere t ts → ⊥) × AreDifferent ts

-- different types are so with one more that isn't there
different_last : (ts : List CompType) (u : CompType) → AreDifferent ts → (IsThere u ts → ⊥) → AreDifferent (ts ++ u ∷ [])
different_last [] u d new = (λ h. absurd (omega (arith, h)), tt)
different_last (t ∷ ts) u d new = (
  λ h. elim (there_either t ts (u ∷ []) h) [
    | inl l ↦ d.0 l
    | inr r ↦ new (subst (λ (v : CompType). IsThere v (t ∷ ts)) (sym (there_only t u r)) (here t ts))
  ],
  different_last ts u d.1 (λ h. new (behind u t ts h)),
)

-- with one that is made once,
different_one : (ts : List CompType) (u : CompType) → AreDifferent ts → AreDifferent (with_type ts u)
different_one ts u d = by (nat_lt (place u ts) (length ts)) refl
  where
    by : (b : Bool) → nat_lt (place u ts) (length ts) ≡ b → AreDifferent (if b then ts else (ts ++ u ∷ []))
    by true e = d
    by false e = different_last ts u d (λ h. let n = ltb-false (place u ts) (length ts) e in absurd (omega (arith, n, h)))

-- and with several
different_more : (ts us : List CompType) → AreDifferent ts → AreDifferent (with_types ts us)
different_more ts [] d = d
different_more ts (u ∷ us) d = different_more (with_type ts u) us (different_one ts u d)

-- the first types are different
first_different : AreDifferent first_types
first_different = (λ h. absurd (omega (arith, h)), (λ h. absurd (omega (arith, h)), (λ h. absurd (omega (arith, h)), (λ h. absurd (omega (arith, h)), (λ h. absurd (omega (arith, h)), (λ h. absurd (omega (arith, h)), (λ h. absurd (omega (arith, h)), tt)))))))

-- and so is the table
pub table_different : (ds : List Declaration) → AreDifferent (type_table ds)
table_different ds = different_more (function_types ds) (continuations ds (handled ds)) (different_more first_types (types_for_all ds) first_different)

-- ## Different types of a list are no more than it has

-- the list without the first that is this type
abbrev without : CompType → List CompType → List CompType
without t [] = []
without t (u ∷ us) = if same_type u t then us else (u ∷ without t us)

-- it has one less
without_length : (t : CompType) (ts : List CompType) → IsThere t ts → suc (length (without t ts)) ≡ length ts
without_length t [] h = absurd (omega (arith, h))
without_length t (u ∷ us) h = by (same_type u t) h (without_length t us)
  where
    by : (b : Bool) → (if b then 0 else suc (place t us)) < suc (length us) → (place t us < length us → suc (length (without t us)) ≡ length us)
        → suc (length (if b then us else (u ∷ without t us))) ≡ suc (length us)
    by true l rest = refl
    by false l rest = ap suc (rest (omega (arith, l)))

-- and every other
stays_without : (t v : CompType) (ts : List CompType) → (t ≡ v → ⊥) → IsThere v ts → IsThere v (without t ts)
stays_without t v [] n h = absurd (omega (arith, h))
stays_without t v (u ∷ us) n h = by (same_type u t) refl (there_cases v u us h) (stays_without t v us n)
  where
    by : (b : Bool) → same_type u t ≡ b → (u ≡ v) ⊎ IsThere v us → (IsThere v us → IsThere v (without t us)) → IsThere v (if b then us else (u ∷ without t us))
    by true e (inl same) rest = absurd (n (sym (one_type u t e) ∙ same))
    by true e (inr r) rest = r
    by false e (inl same) rest = subst (λ (w : CompType). IsThere v (w ∷ without t us)) (sym same) (here v (without t us))
    by false e (inr r) rest = behind v u (without t us) (rest r)

-- where all of these stand in a list, it has no fewer
pub no_more : (ts all : List CompType) → AreDifferent ts → ((t : CompType) → IsThere t ts → IsThere t all) → length ts ≤ length all
no_more [] all d h = omega arith
no_more (t ∷ ts) all d h =
    let w = without_length t all (h t (here t ts)) in
    let q = no_more ts (without t all) d.1 (λ u i. stays_without t u all (λ e. d.0 (subst (λ (v : CompType). IsThere v ts) (sym e) i)) (h u (behind u t ts i))) in
    omega (arith, w, q)
