-- A script that breaks no rule and isn't too large has few types, by how many kinds of parameters there are and by its size.
use Rattle.std.proofs.Common.{◌≡◌, ◌⊎◌, inl, inr, ℕ, zero, suc, ◌+◌, ◌*◌, ◌≤◌, true, List, [], ◌∷◌, ◌++◌, map, length, Some, refl, sym, ap, ◌∙◌, subst, arith, length-append}
use Rattle.std.specs.Prelude.{slice_get}
use Rattle.std.proofs.lemmas.Bool.{cases_lt}
use Rattle.std.proofs.lemmas.List.{length-map}
use Rattle.w_types.specs.declared.types.ValType.{ValType}
use Rattle.w_types.specs.declared.types.ValType.TheVariants.{I64}
use Rattle.w_types.specs.declared.types.CompType.{CompType}
use Rattle.w_types.specs.declared.types.CompType.TheVariants.{Cont}
use Rattle.s_syntax.specs.declared.name.Name.{Name}
use Rattle.s_syntax.specs.declared.script.VariableType.{VariableType}
use Rattle.s_syntax.specs.declared.script.VariableType.TheVariants.{Int, Resumption, Coroutine}
use Rattle.s_syntax.specs.declared.script.Parameter.{Parameter}
use Rattle.s_syntax.specs.declared.script.Definition.{Definition}
use Rattle.s_syntax.specs.declared.script.Definition.TheVariants as definition
use Rattle.s_syntax.specs.declared.script.Declaration.{Declaration}
use Rattle.s_syntax.specs.declared.script.Script.{Script}
use Rattle.s_check.specs.Refusal.{Good}
use Rattle.s_check.specs.Scopes.{is_among}
use Rattle.s_check.specs.Size.{Size, size_limit}
use Rattle.s_index.specs.Types.{place, first_types, from_to, function_type, handler_type, effect_type, clause_type, clause_types, types_for, types_for_all, val_type, val_types, to_continuation, resumption_type, computation_type, coroutine_type}
use Rattle.s_index.specs.Indices.{function_types, type_table, parameters_of, continuation_of, continuations}
use Rattle.s_index.specs.Handled.{handled_names, handled}
use Rattle.s_valid.proofs.Declarations.{IsSmall, small}
use Rattle.s_valid.proofs.DifferentTypes.{no_more, table_different}
use Rattle.s_valid.proofs.HandledNames.{of_handled}
use Rattle.s_valid.proofs.LongTypes.{where_long, long_there, long_type, long_types, long_continuations, handled_long, long_types_cost}
use Rattle.s_valid.proofs.MadeOnce.{IsThere, here, behind, there_cases, there_only, there_left, there_right, there_either, there_at, made_of, more_types}
use Rattle.s_valid.proofs.Signatures.{how_many, map_at, lists, lists_length, list_at}
use Rattle.s_valid.proofs.TypeTable.{clauses_have}

-- ## Types of effects and clauses

-- what is made of the numbers up to n
abbrev up_to : (ℕ → CompType) → ℕ → List CompType
up_to f zero = f 0 ∷ []
up_to f (suc n) = f (suc n) ∷ up_to f n

-- they are one more than n
up_to_length : (f : ℕ → CompType) (n : ℕ) → length (up_to f n) ≡ suc n
up_to_length f zero = refl
up_to_length f (suc n) = ap suc (up_to_length f n)

-- what is made of each of those is there
made_up_to : (f : ℕ → CompType) (n k : ℕ) → k ≤ n → IsThere (f k) (up_to f n)
made_up_to f zero k h = let same : 0 ≡ k = omega (arith, h) in subst (λ (j : ℕ). IsThere (f j) (f 0 ∷ [])) same (here (f 0) [])
made_up_to f (suc n) k h = elim (last k n h) [
  | inl e ↦ subst (λ (j : ℕ). IsThere (f j) (f (suc n) ∷ up_to f n)) (sym e) (here (f (suc n)) (up_to f n))
  | inr l ↦ behind (f k) (f (suc n)) (up_to f n) (made_up_to f n k l)
]
  where
    last : (j m : ℕ) → j ≤ suc m → (j ≡ suc m) ⊎ (j ≤ m)
    last zero m l = inr (omega arith)
    last (suc j) zero l = inl (omega (arith, l))
    last (suc j) (suc m) l = elim (last j m (omega (arith, l))) [ inl e ↦ inl (ap suc e) | inr r ↦ inr (omega (arith, r)) ]

-- the types of effects and clauses that keep the rules
abbrev numbered : List CompType
numbered = up_to effect_type 8 ++ up_to clause_type 8

-- nine each
numbered_length : length numbered ≡ 18
numbered_length =
    let c = length-append (up_to effect_type 8) (up_to clause_type 8) in
    let d = up_to_length effect_type 8 in
    let e = up_to_length clause_type 8 in
    omega (arith, c, d, e)

-- those of at most eight arguments are there
effect_in : (k : ℕ) → k ≤ 8 → IsThere (effect_type k) numbered
effect_in k h = there_left (effect_type k) (up_to effect_type 8) (up_to clause_type 8) (made_up_to effect_type 8 k h)

clause_in : (k : ℕ) → k ≤ 8 → IsThere (clause_type k) numbered
clause_in k h = there_right (clause_type k) (up_to effect_type 8) (up_to clause_type 8) (made_up_to clause_type 8 k h)

-- ## The list in which each type stands

-- where the type of each parameter is one of these kinds
module _ (kinds : List ValType) (kind_at : (t : VariableType) → (i : ℕ) × (slice_get kinds i ≡ Some (val_type t))) (ds : List Declaration) where
  -- the types that are made of at most five parameters
  abbrev short : (List ValType → CompType) → List CompType
  short make = map make (lists kinds 5)

  -- those of functions, handlers, and the continuations of functions
  abbrev to_function : List ValType → CompType
  to_function ts = from_to ts (I64 ∷ [])

  abbrev to_handler : List ValType → CompType
  to_handler ts = from_to (ts ++ to_continuation true computation_type ∷ []) (I64 ∷ [])

  abbrev continued : List ValType → CompType
  continued ts = Cont (place (from_to ts (I64 ∷ [])) (function_types ds))

  -- what is made of so few parameters is there
  short_there : (make : List ValType → CompType) (ps : List Parameter) → length ps ≤ 5 → IsThere (make (val_types ps)) (short make)
  short_there make ps h =
      let q = list_at kinds (λ (p : Parameter). val_type p.ty) (λ p. kind_at p.ty) 5 ps h in
      there_at (make (val_types ps)) (short make) q.0 (map_at make (lists kinds 5) q.0 (val_types ps) q.1)

  -- as many as there are lists of kinds
  short_length : (make : List ValType → CompType) → length (short make) ≡ how_many (length kinds) 5
  short_length make = length-map (lists kinds 5) make ∙ lists_length kinds 5

  -- the types of declarations that have no more
  abbrev declared : List CompType
  declared = short to_function ++ (short to_handler ++ numbered)

  -- those of effects and clauses are there
  numbered_in : (t : CompType) → IsThere t numbered → IsThere t declared
  numbered_in t h = there_right t (short to_function) (short to_handler ++ numbered) (there_right t (short to_handler) numbered h)

  -- each type of a declaration is a long one of its own, or there
  definition_listed : (d : Definition) → IsSmall d → (t : CompType) → IsThere t (types_for d) → IsThere t (long_type d) ⊎ IsThere t declared
  definition_listed (definition.Effect n) few t h = inr (subst (λ (u : CompType). IsThere u declared) (there_only t (effect_type n.value) h) (numbered_in (effect_type n.value) (effect_in n.value few)))
  definition_listed (definition.Function f) few t h =
      subst (λ (u : CompType). IsThere u (where_long (length f.parameters) (function_type f.parameters)) ⊎ IsThere u declared) (there_only t (function_type f.parameters) h)
      (elim (cases_lt 5 (length f.parameters)) [
        | inl lt ↦ inl (long_there (length f.parameters) (function_type f.parameters) lt)
        | inr le ↦ inr (there_left (function_type f.parameters) (short to_function) (short to_handler ++ numbered) (short_there to_function f.parameters le))
      ])
  definition_listed (definition.Handler i) few t h = elim (there_cases t (handler_type i.parameters) (clause_types i.clauses) h) [
    | inl e ↦
        subst (λ (u : CompType). IsThere u (where_long (length i.parameters) (handler_type i.parameters)) ⊎ IsThere u declared) e
        (elim (cases_lt 5 (length i.parameters)) [
          | inl lt ↦ inl (long_there (length i.parameters) (handler_type i.parameters) lt)
          | inr le ↦ inr (there_right (handler_type i.parameters) (short to_function) (short to_handler ++ numbered) (there_left (handler_type i.parameters) (short to_handler) numbered (short_there to_handler i.parameters le)))
        ])
    | inr r ↦ inr (clauses_have (λ (u : CompType). IsThere u declared) i.clauses (λ n c at. numbered_in (clause_type (length c.arguments)) (clause_in (length c.arguments) (few.1 n c at))) t r)
  ]
  definition_listed (definition.Slots s) few t h = absurd (omega (arith, h))

  -- and so of all declarations
  all_listed : (es : List Declaration) → ((k : ℕ) (e : Declaration) → slice_get es k ≡ Some e → IsSmall e.definition) → (t : CompType) → IsThere t (types_for_all es) → IsThere t (long_types es) ⊎ IsThere t declared
  all_listed [] few t h = absurd (omega (arith, h))
  all_listed (d ∷ es) few t h = elim (there_either t (types_for d.definition) (types_for_all es) h) [
    | inl l ↦ elim (definition_listed d.definition (few 0 d refl) t l) [
      | inl a ↦ inl (there_left t (long_type d.definition) (long_types es) a)
      | inr b ↦ inr b
    ]
    | inr r ↦ elim (all_listed es (λ k e at. few (suc k) e at) t r) [
      | inl a ↦ inl (there_right t (long_type d.definition) (long_types es) a)
      | inr b ↦ inr b
    ]
  ]

  -- the types of more than five parameters
  abbrev long : List CompType
  long = long_types ds ++ long_continuations ds (handled_names ds)

  -- and with those all that there can be
  abbrev listed : List CompType
  listed = first_types ++ (declared ++ (short continued ++ long))

  -- how many these are
  listed_length : length listed ≡ 25 + 3 * how_many (length kinds) 5 + length (long_types ds) + length (long_continuations ds (handled_names ds))
  listed_length =
      let n = numbered_length in
      let f = short_length to_function in
      let h = short_length to_handler in
      let c = short_length continued in
      let a0 = length-append first_types (declared ++ (short continued ++ long)) in
      let a1 = length-append declared (short continued ++ long) in
      let a2 = length-append (short to_function) (short to_handler ++ numbered) in
      let a3 = length-append (short to_handler) numbered in
      let a4 = length-append (short continued) long in
      let a5 = length-append (long_types ds) (long_continuations ds (handled_names ds)) in
      omega (arith, n, f, h, c, a0, a1, a2, a3, a4, a5)

  -- the type of a handled function's continuations is there
  continuation_listed : (f : Name) → is_among (handled_names ds) f ≡ true → IsThere (continuation_of ds (parameters_of ds f)) (short continued ++ long)
  continuation_listed f e = elim (cases_lt 5 (length (parameters_of ds f))) [
    | inl lt ↦ there_right (continuation_of ds (parameters_of ds f)) (short continued) long
        (there_right (continuation_of ds (parameters_of ds f)) (long_types ds) (long_continuations ds (handled_names ds)) (handled_long ds (handled_names ds) f e lt))
    | inr le ↦ there_left (continuation_of ds (parameters_of ds f)) (short continued) long (short_there continued (parameters_of ds f) le)
  ]

  -- and each type of the table
  each_listed : ((k : ℕ) (e : Declaration) → slice_get ds k ≡ Some e → IsSmall e.definition) → (t : CompType) → IsThere t (type_table ds) → IsThere t listed
  each_listed few t h = elim (made_of t (function_types ds) (continuations ds (handled ds)) h) [
    | inl l ↦ elim (made_of t first_types (types_for_all ds) l) [
      | inl a ↦ there_left t first_types (declared ++ (short continued ++ long)) a
      | inr r ↦ there_right t first_types (declared ++ (short continued ++ long)) (elim (all_listed ds few t r) [
        | inl a ↦ there_right t declared (short continued ++ long) (there_right t (short continued) long (there_left t (long_types ds) (long_continuations ds (handled_names ds)) a))
        | inr b ↦ there_left t declared (short continued ++ long) b
      ])
    ]
    | inr r ↦
        let c = of_handled ds t r in
        there_right t first_types (declared ++ (short continued ++ long)) (there_right t declared (short continued ++ long)
        (subst (λ (u : CompType). IsThere u (short continued ++ long)) c.is (continuation_listed c.name c.is_handled)))
  ]

  -- so the table has no more
  few_listed : ((k : ℕ) (e : Declaration) → slice_get ds k ≡ Some e → IsSmall e.definition) → length (type_table ds) ≤ length listed
  few_listed few = no_more (type_table ds) listed (table_different ds) (each_listed few)

-- ## How many

-- seven first types, eighteen of effects and clauses, three for each list of at most five kinds, and one for each six of the script's size
pub few_by_kinds : (kinds : List ValType) → ((t : VariableType) → (i : ℕ) × (slice_get kinds i ≡ Some (val_type t))) → (p : Script) → Good p
    → 6 * length (type_table p.declarations) ≤ 6 * (25 + 3 * how_many (length kinds) 5) + Size p
few_by_kinds kinds kind_at p good =
    let few = few_listed kinds kind_at p.declarations (small p good) in
    let all = listed_length kinds kind_at p.declarations in
    let cost = long_types_cost p good in
    omega (arith, few, all, cost)

-- the kinds of parameters that there are: a number, a resumption and a coroutine
abbrev kinds : List ValType
kinds = I64 ∷ to_continuation true resumption_type ∷ to_continuation true coroutine_type ∷ []

-- each type of a parameter is one
kind_at : (t : VariableType) → (i : ℕ) × (slice_get kinds i ≡ Some (val_type t))
kind_at Int = (0, refl)
kind_at (Resumption h) = (1, refl)
kind_at Coroutine = (2, refl)

-- so a script within the size has at most 10,000 types, the limit of a module: by this count 9,450
pub few_in_table : (p : Script) → Good p → Size p ≤ size_limit → length (type_table p.declarations) ≤ 10000
few_in_table p good size =
    let q = few_by_kinds kinds kind_at p good in
    let n : how_many (length kinds) 5 ≡ 364 = refl in
    omega (arith, q, n, size)

-- and the function types are some of them
pub few_function_types : (p : Script) → Good p → Size p ≤ size_limit → length (function_types p.declarations) ≤ 10000
few_function_types p good size =
    let q = few_in_table p good size in
    let l = more_types (function_types p.declarations) (continuations p.declarations (handled p.declarations)) in
    omega (arith, q, l)
