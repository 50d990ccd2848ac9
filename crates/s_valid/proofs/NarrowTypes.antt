-- No type of the module of a script that breaks no rule takes or gives much.
use Rattle.std.proofs.Common.{◌≡◌, inl, inr, ℕ, zero, suc, ◌≤◌, true, false, List, [], ◌∷◌, length, Some, refl, ap, subst, arith, length-append, get_or}
use Rattle.std.specs.Prelude.{slice_get, All}
use Rattle.std.proofs.lemmas.List.{length-map}
use Rattle.std.proofs.lemmas.Option.{slice_get-get_or}
use Rattle.w_types.specs.declared.types.ValType.TheVariants.{I64}
use Rattle.w_types.specs.declared.types.CompType.{CompType}
use Rattle.w_types.specs.declared.types.CompType.TheVariants.{Cont}
use Rattle.w_rules.specs.Limits.{IsNarrow}
use Rattle.s_syntax.specs.declared.script.Parameter.{Parameter}
use Rattle.s_syntax.specs.declared.script.Definition.{Definition}
use Rattle.s_syntax.specs.declared.script.Definition.TheVariants as definition
use Rattle.s_syntax.specs.declared.script.Declaration.{Declaration}
use Rattle.s_syntax.specs.declared.script.Script.{Script}
use Rattle.s_check.specs.Refusal.{Good}
use Rattle.s_index.specs.Types.{place, first_types, from_to, function_type, handler_type, effect_type, clause_type, clause_types, types_for, types_for_all, val_type, val_types, numbers, to_continuation, resumption_type, computation_type, coroutine_type}
use Rattle.s_index.specs.Indices.{function_types, type_table, continuations}
use Rattle.s_index.specs.Handled.{handled}
use Rattle.s_valid.proofs.Declarations.{IsSmall, small}
use Rattle.s_valid.proofs.HandledNames.{of_handled}
use Rattle.s_valid.proofs.MadeOnce.{IsThere, stands, there_cases, there_only, there_either, there_at, made_of}
use Rattle.s_valid.proofs.TypeTable.{clauses_have}

-- ## The types of declarations

-- as many numbers as are wanted
numbers_length : (n : ℕ) → length (numbers n) ≡ n
numbers_length zero = refl
numbers_length (suc n) = ap suc (numbers_length n)

-- a function takes eight at most
function_narrow : (ps : List Parameter) → length ps ≤ 8 → IsNarrow (function_type ps)
function_narrow ps h = let l = length-map ps (λ (p : Parameter). val_type p.ty) in (omega (arith, l, h), omega arith)

-- a handler what it handles too
handler_narrow : (ps : List Parameter) → length ps ≤ 8 → IsNarrow (handler_type ps)
handler_narrow ps h =
    let l = length-map ps (λ (p : Parameter). val_type p.ty) in
    let a = length-append (val_types ps) (to_continuation true computation_type ∷ []) in
    (omega (arith, l, a, h), omega arith)

-- an effect eight at most
effect_narrow : (k : ℕ) → k ≤ 8 → IsNarrow (effect_type k)
effect_narrow k h = let l = numbers_length k in (omega (arith, l, h), omega arith)

-- and a clause's block gives these, and the resumption
clause_narrow : (k : ℕ) → k ≤ 8 → IsNarrow (clause_type k)
clause_narrow k h = let l = numbers_length k in let a = length-append (numbers k) (to_continuation false resumption_type ∷ []) in (omega arith, omega (arith, l, a, h))

-- so each type of a declaration that keeps the rules is narrow
definition_narrow : (d : Definition) → IsSmall d → (t : CompType) → IsThere t (types_for d) → IsNarrow t
definition_narrow (definition.Effect n) few t h = subst IsNarrow (there_only t (effect_type n.value) h) (effect_narrow n.value few)
definition_narrow (definition.Function f) few t h = subst IsNarrow (there_only t (function_type f.parameters) h) (function_narrow f.parameters few)
definition_narrow (definition.Handler i) few t h = elim (there_cases t (handler_type i.parameters) (clause_types i.clauses) h) [
  | inl e ↦ subst IsNarrow e (handler_narrow i.parameters few.0)
  | inr r ↦ clauses_have IsNarrow i.clauses (λ n c at. clause_narrow (length c.arguments) (few.1 n c at)) t r
]
definition_narrow (definition.Slots s) few t h = absurd (omega (arith, h))

-- and of all declarations
declared_narrow : (ds : List Declaration) → ((k : ℕ) (e : Declaration) → slice_get ds k ≡ Some e → IsSmall e.definition) → (t : CompType) → IsThere t (types_for_all ds) → IsNarrow t
declared_narrow [] few t h = absurd (omega (arith, h))
declared_narrow (d ∷ ds) few t h = elim (there_either t (types_for d.definition) (types_for_all ds) h) [
  | inl l ↦ definition_narrow d.definition (few 0 d refl) t l
  | inr r ↦ declared_narrow ds (λ k e at. few (suc k) e at) t r
]

-- ## All types

-- the first types, one by one
first_narrow : (i : ℕ) (t : CompType) → slice_get first_types i ≡ Some t → IsNarrow t
first_narrow zero t e = subst IsNarrow (let same : from_to (I64 ∷ []) (I64 ∷ []) ≡ t = cc in same) (omega arith, omega arith)
first_narrow (suc zero) t e = subst IsNarrow (let same : Cont 0 ≡ t = cc in same) tt
first_narrow (suc (suc zero)) t e = subst IsNarrow (let same : from_to [] (I64 ∷ []) ≡ t = cc in same) (omega arith, omega arith)
first_narrow (suc (suc (suc zero))) t e = subst IsNarrow (let same : Cont 2 ≡ t = cc in same) tt
first_narrow (suc (suc (suc (suc zero)))) t e = subst IsNarrow (let same : from_to (I64 ∷ []) [] ≡ t = cc in same) (omega arith, omega arith)
first_narrow (suc (suc (suc (suc (suc zero))))) t e = subst IsNarrow (let same : from_to (I64 ∷ to_continuation true coroutine_type ∷ []) (I64 ∷ []) ≡ t = cc in same) (omega arith, omega arith)
first_narrow (suc (suc (suc (suc (suc (suc zero)))))) t e = subst IsNarrow (let same : Cont 5 ≡ t = cc in same) tt
first_narrow (suc (suc (suc (suc (suc (suc (suc i))))))) t e = absurd (cc)

-- each in the table is a first one, of a declaration, or of continuations
table_narrow : (p : Script) → Good p → (t : CompType) → IsThere t (type_table p.declarations) → IsNarrow t
table_narrow p good t h = elim (made_of t (function_types p.declarations) (continuations p.declarations (handled p.declarations)) h) [
  | inl l ↦ elim (made_of t first_types (types_for_all p.declarations) l) [
    | inl f ↦ first_narrow (place t first_types) t (stands t first_types f)
    | inr r ↦ declared_narrow p.declarations (small p good) t r
  ]
  | inr r ↦ let c = of_handled p.declarations t r in subst IsNarrow c.is tt
]

-- at most nine each way
pub all_narrow : (p : Script) → Good p → All IsNarrow (type_table p.declarations)
all_narrow p good k d lt =
    table_narrow p good (get_or (type_table p.declarations) k d) (there_at (get_or (type_table p.declarations) k d) (type_table p.declarations) k (slice_get-get_or (type_table p.declarations) k d lt))
