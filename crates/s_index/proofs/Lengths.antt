-- Lists of types: put together, and how long they are.
use Rattle.std.proofs.Common.{◌≡◌, ℕ, zero, suc, ◌+◌, ◌≤◌, Bool, true, false, cond, List, [], ◌∷◌, ◌++◌, length, filter, refl, sym, ap, ◌∙◌, arith, add-one, length-append}
use Rattle.std.specs.Prelude.{nat_lt, sum_by}
use Rattle.std.proofs.lemmas.List.Sums.{sum_by-cons}
use Rattle.w_types.specs.declared.types.ValType.{ValType}
use Rattle.w_types.specs.declared.types.ValType.TheVariants.{I64}
use Rattle.w_types.specs.declared.types.CompType.{CompType}
use Rattle.s_syntax.specs.declared.script.Clause.{Clause}
use Rattle.s_syntax.specs.declared.script.Definition.{Definition}
use Rattle.s_syntax.specs.declared.script.Definition.TheVariants as definition
use Rattle.s_syntax.specs.declared.script.Declaration.{Declaration}
use Rattle.s_check.specs.Size.{clause_size, definition_size, size_limit}
use Rattle.s_index.specs.Handled.{handled, handled_names, is_function_among}
use Rattle.s_index.specs.Indices.{function_types, continuations, type_table}
use Rattle.s_index.specs.Types.{numbers, place, with_type, with_types, first_types, clause_types, types_for, types_for_all}

-- one number more, at the end
pub numbers_more : (n : ℕ) → numbers n ++ I64 ∷ [] ≡ numbers (n + 1)
numbers_more n = by n ∙ ap numbers (sym (add-one n))
  where
    by : (k : ℕ) → numbers k ++ I64 ∷ [] ≡ numbers (suc k)
    by zero = refl
    by (suc k) = ap (λ (ts : List ValType). I64 ∷ ts) (by k)

-- ## Types that are added

-- some, and then others
pub with_append : (ts us vs : List CompType) → with_types ts (us ++ vs) ≡ with_types (with_types ts us) vs
with_append ts [] vs = refl
with_append ts (u ∷ us) vs = with_append (with_type ts u) us vs

with_one : (ts : List CompType) (t : CompType) (b : Bool) → length (cond b ts (ts ++ t ∷ [])) ≤ length ts + 1
with_one ts t true = omega arith
with_one ts t false = let q = length-append ts (t ∷ []) in omega (arith, q)

-- no more than both lists have
pub with_length : (ts us : List CompType) → length (with_types ts us) ≤ length ts + length us
with_length ts [] = omega arith
with_length ts (u ∷ us) =
    let q = with_length (with_type ts u) us in
    let o = with_one ts u (nat_lt (place u ts) (length ts)) in
    omega (arith, q, o)

with_more : (ts : List CompType) (t : CompType) (b : Bool) → length ts ≤ length (cond b ts (ts ++ t ∷ []))
with_more ts t true = omega arith
with_more ts t false = let q = length-append ts (t ∷ []) in omega (arith, q)

-- and no fewer than the first one has
with_grows : (ts us : List CompType) → length ts ≤ length (with_types ts us)
with_grows ts [] = omega arith
with_grows ts (u ∷ us) =
    let q = with_grows (with_type ts u) us in
    let m = with_more ts u (nat_lt (place u ts) (length ts)) in
    omega (arith, q, m)

-- the first types of each module are there
pub first_there : (ds : List Declaration) → 7 ≤ length (type_table ds)
first_there ds =
    let f = with_grows first_types (types_for_all ds) in
    let t = with_grows (function_types ds) (continuations ds (handled ds)) in
    omega (arith, f, t)

-- ## As many as a script is large

sized : (d : Definition) → 1 ≤ definition_size d
sized (definition.Effect n) = omega arith
sized (definition.Function f) = omega arith
sized (definition.Handler h) = omega arith
sized (definition.Slots s) = omega arith

pub few_declarations : (ds : List Declaration) → length ds ≤ sum_by (λ (d : Declaration). definition_size d.definition) ds
few_declarations [] = omega arith
few_declarations (d ∷ ds) =
    let q = few_declarations ds in let s = sized d.definition in let c = sum_by-cons (λ (e : Declaration). definition_size e.definition) d ds in omega (arith, q, s, c)

few_clauses : (cs : List Clause) → length (clause_types cs) ≤ sum_by clause_size cs
few_clauses [] = omega arith
few_clauses (c ∷ cs) = let q = few_clauses cs in let s = sum_by-cons clause_size c cs in omega (arith, q, s)

few_for : (d : Definition) → length (types_for d) ≤ definition_size d
few_for (definition.Effect n) = omega arith
few_for (definition.Function f) = omega arith
few_for (definition.Handler h) = let q = few_clauses h.clauses in omega (arith, q)
few_for (definition.Slots s) = omega arith

few_types : (ds : List Declaration) → length (types_for_all ds) ≤ sum_by (λ (d : Declaration). definition_size d.definition) ds
few_types [] = omega arith
few_types (d ∷ ds) = let q = few_types ds in let f = few_for d.definition in let l = length-append (types_for d.definition) (types_for_all ds) in
    let c = sum_by-cons (λ (e : Declaration). definition_size e.definition) d ds in omega (arith, q, f, l, c)

kept_one : (b : Bool) (d : Declaration) (ds : List Declaration) → length (cond b (d ∷ ds) ds) ≤ suc (length ds)
kept_one true d ds = omega arith
kept_one false d ds = omega arith

kept_length : (p : Declaration → Bool) (ds : List Declaration) → length (filter p ds) ≤ length ds
kept_length p [] = omega arith
kept_length p (d ∷ ds) = let o = kept_one (p d) d (filter p ds) in let q = kept_length p ds in omega (arith, o, q)

continuations_length : (ds es : List Declaration) → length (continuations ds es) ≡ length es
continuations_length ds [] = refl
continuations_length ds (e ∷ es) = ap suc (continuations_length ds es)

-- the function types of a script of this size
pub few_function_types : (ds : List Declaration) → sum_by (λ (d : Declaration). definition_size d.definition) ds ≤ size_limit → length (function_types ds) ≤ 50007
few_function_types ds h = let q = with_length first_types (types_for_all ds) in let f = few_types ds in omega (arith, q, f, h)

-- and all its types
pub few_in_table : (ds : List Declaration) → sum_by (λ (d : Declaration). definition_size d.definition) ds ≤ size_limit → length (type_table ds) ≤ 100007
few_in_table ds h =
    let q = with_length (function_types ds) (continuations ds (handled ds)) in
    let f = few_function_types ds h in
    let c = continuations_length ds (handled ds) in
    let k = kept_length (λ (d : Declaration). is_function_among (handled_names ds) d d.definition) ds in
    let d = few_declarations ds in
    omega (arith, q, f, c, k, d, h)
