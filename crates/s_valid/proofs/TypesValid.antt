-- Each type of the module of a script is valid.
use Rattle.std.proofs.Common.{◌≡◌, ◌⊎◌, inl, inr, ℕ, zero, suc, ◌<◌, ◌≤◌, Bool, true, false, List, [], ◌∷◌, ◌++◌, length, Option, Some, None, if◌then◌else◌, refl, sym, ap, subst, arith, get_or, length-append}
use Rattle.std.specs.Prelude.{nat_lt, slice_get, option_map, All}
use Rattle.std.proofs.lemmas.Bool.{ltb-true, lt-ltb}
use Rattle.std.proofs.lemmas.List.Elements.{All-nil, All-cons, All-append}
use Rattle.w_types.specs.declared.types.HeapType.{HeapType}
use Rattle.w_types.specs.declared.types.HeapType.TheVariants as heap
use Rattle.w_types.specs.declared.types.ValType.{ValType}
use Rattle.w_types.specs.declared.types.ValType.TheVariants as val
use Rattle.w_types.specs.declared.types.CompType.{CompType}
use Rattle.w_types.specs.declared.types.CompType.TheVariants.{Func, Cont}
use Rattle.w_types.specs.Groups.{types_of}
use Rattle.w_syntax.specs.Types.{alone_of}
use Rattle.w_rules.specs.Types.{IsValidHeap, IsValidType, IsValidCompType}
use Rattle.w_rules.specs.Valid.{TypeValid}
use Rattle.s_syntax.specs.declared.name.Name.{Name}
use Rattle.s_syntax.specs.declared.script.VariableType.{VariableType}
use Rattle.s_syntax.specs.declared.script.VariableType.TheVariants.{Int, Resumption, Coroutine}
use Rattle.s_syntax.specs.declared.script.Parameter.{Parameter}
use Rattle.s_syntax.specs.declared.script.Clause.{Clause}
use Rattle.s_syntax.specs.declared.script.Definition.{Definition}
use Rattle.s_syntax.specs.declared.script.Definition.TheVariants as definition
use Rattle.s_syntax.specs.declared.script.Declaration.{Declaration}
use Rattle.s_check.specs.Definitions.{definition_of}
use Rattle.s_index.specs.Types.{place, with_type, with_types, first_types, from_to, function_type, handler_type, effect_type, clause_type, clause_types, types_for, types_for_all, val_type, val_types, numbers, to_continuation, resumption_type, computation_type, coroutine_type}
use Rattle.s_index.specs.Indices.{function_types, type_table, parameters_of, continuation_of, continuations}
use Rattle.s_index.specs.Handled.{handled}
use Rattle.s_index.specs.Numbers.{Entry, no_counts, entry_of, parameters_in}
use Rattle.s_index.proofs.Entries.{entry_defines}
use Rattle.s_code.specs.Lowered.{lowered_all}
use Rattle.s_valid.proofs.MadeOnce.{IsThere, stands, here, behind, there_cases, there_either, keeps}
use Rattle.s_valid.proofs.NumbersInModules.{get_left}
use Rattle.s_valid.proofs.TypeGroups.{types_of_groups, end_of, past, end_at}
use Rattle.s_valid.proofs.TypeTable.{types_among, in_function_types, seven_types}

-- an item of a list
pub item : {A : Type 0} (xs : List A) (i : ℕ) → i < length xs → (x : A) × (slice_get xs i ≡ Some x)
item [] i h = absurd (omega (arith, h))
item (x ∷ xs) zero h = (x, refl)
item (x ∷ xs) (suc i) h = item xs i (omega (arith, h))

-- ## More types

heap_more : (a b : ℕ) (h : HeapType) → a ≤ b → IsValidHeap a h → IsValidHeap b h
heap_more a b heap.Func le v = refl
heap_more a b heap.NoFunc le v = refl
heap_more a b heap.Cont le v = refl
heap_more a b heap.NoCont le v = refl
heap_more a b (heap.Index x) le v = let l = ltb-true x a v in lt-ltb x b (omega (arith, l, le))

-- a type that is valid stays so where there are more
pub type_more : (a b : ℕ) (t : ValType) → a ≤ b → IsValidType a t → IsValidType b t
type_more a b val.I32 le v = refl
type_more a b val.I64 le v = refl
type_more a b (val.Ref r) le v = heap_more a b r.heap le v

pub valid_more : (ts us : List CompType) (a b : ℕ) (t : CompType) → a ≤ b → IsValidCompType ts a t → IsValidCompType (ts ++ us) b t
valid_more ts us a b (Func t) le v = (λ k d lt. type_more a b (get_or t.params k d) le (v.0 k d lt), λ k d lt. type_more a b (get_or t.results k d) le (v.1 k d lt))
valid_more ts us a b (Cont x) le v = (omega (arith, le, v.0), v.1, get_left ts us x (Func v.1) v.2)

-- ## A list of types, each by those up to the end of its group

abbrev pub AreSound : List CompType → Type 0
AreSound ts = (i : ℕ) (t : CompType) → slice_get ts i ≡ Some t → IsValidCompType ts (end_of i) t

last_cases : {A : Type 0} (xs : List A) (y : A) (i : ℕ) (x : A) → slice_get (xs ++ y ∷ []) i ≡ Some x → (slice_get xs i ≡ Some x) ⊎ ((i ≡ length xs) × (y ≡ x))
last_cases [] y zero x e = inr (refl, cc)
last_cases [] y (suc i) x e = absurd (cc)
last_cases (z ∷ xs) y zero x e = inl e
last_cases (z ∷ xs) y (suc i) x e = elim (last_cases xs y i x e) [ inl l ↦ inl l | inr r ↦ inr (ap suc r.0, r.1) ]

sound_one : (ts : List CompType) (u : CompType) → AreSound ts → IsValidCompType ts (length ts) u → AreSound (ts ++ u ∷ [])
sound_one ts u s v i t e = elim (last_cases ts u i t e) [
  | inl l ↦ valid_more ts (u ∷ []) (end_of i) (end_of i) t (omega arith) (s i t l)
  | inr r ↦ subst (λ (w : CompType). IsValidCompType (ts ++ u ∷ []) (end_of i) w) r.1 (let n = r.0 in let q = past i in valid_more ts (u ∷ []) (length ts) (end_of i) u (omega (arith, n, q)) v)
]

sound_step : (ts us : List CompType) (u : CompType) (b : Bool) → AreSound ts → IsValidCompType ts (length ts) u → ((t : CompType) → IsThere t us → IsValidCompType ts (length ts) t)
    → AreSound (if b then ts else (ts ++ u ∷ [])) × ((t : CompType) → IsThere t us → IsValidCompType (if b then ts else (ts ++ u ∷ [])) (length (if b then ts else (ts ++ u ∷ []))) t)
sound_step ts us u true s v vs = (s, vs)
sound_step ts us u false s v vs =
    (sound_one ts u s v, λ t h. let l = length-append ts (u ∷ []) in valid_more ts (u ∷ []) (length ts) (length (ts ++ u ∷ [])) t (omega (arith, l)) (vs t h))

-- types that are valid after it may be added
pub sound_more : (ts us : List CompType) → AreSound ts → ((t : CompType) → IsThere t us → IsValidCompType ts (length ts) t) → AreSound (with_types ts us)
sound_more ts [] s vs = s
sound_more ts (u ∷ us) s vs =
    let q = sound_step ts us u (nat_lt (place u ts) (length ts)) s (vs u (here u us)) (λ t h. vs t (behind t u us h)) in
    sound_more (with_type ts u) us q.0 q.1

-- ## The first types

no_types : (end : ℕ) → All (IsValidType end) []
no_types end = All-nil (IsValidType end)

one_number : (end : ℕ) → All (IsValidType end) (val.I64 ∷ [])
one_number end = All-cons (IsValidType end) val.I64 [] refl (no_types end)

pub first_sound : AreSound first_types
first_sound zero t e = subst (λ (u : CompType). IsValidCompType first_types 1 u) (let same : from_to (val.I64 ∷ []) (val.I64 ∷ []) ≡ t = cc in same) (one_number 1, one_number 1)
first_sound (suc zero) t e = subst (λ (u : CompType). IsValidCompType first_types 2 u) (let same : Cont 0 ≡ t = cc in same) (omega arith, record { params = val.I64 ∷ []; results = val.I64 ∷ [] }, refl)
first_sound (suc (suc zero)) t e = subst (λ (u : CompType). IsValidCompType first_types 3 u) (let same : from_to [] (val.I64 ∷ []) ≡ t = cc in same) (no_types 3, one_number 3)
first_sound (suc (suc (suc zero))) t e = subst (λ (u : CompType). IsValidCompType first_types 4 u) (let same : Cont 2 ≡ t = cc in same) (omega arith, record { params = []; results = val.I64 ∷ [] }, refl)
first_sound (suc (suc (suc (suc zero)))) t e = subst (λ (u : CompType). IsValidCompType first_types 5 u) (let same : from_to (val.I64 ∷ []) [] ≡ t = cc in same) (one_number 5, no_types 5)
first_sound (suc (suc (suc (suc (suc zero))))) t e =
    subst (λ (u : CompType). IsValidCompType first_types 7 u) (let same : from_to (val.I64 ∷ to_continuation true coroutine_type ∷ []) (val.I64 ∷ []) ≡ t = cc in same) (
      All-cons (IsValidType 7) val.I64 (to_continuation true coroutine_type ∷ []) refl (All-cons (IsValidType 7) (to_continuation true coroutine_type) [] refl (no_types 7)),
      one_number 7,
    )
first_sound (suc (suc (suc (suc (suc (suc zero)))))) t e =
    subst (λ (u : CompType). IsValidCompType first_types 7 u) (let same : Cont 5 ≡ t = cc in same)
    (omega arith, record { params = val.I64 ∷ to_continuation true coroutine_type ∷ []; results = val.I64 ∷ [] }, refl)
first_sound (suc (suc (suc (suc (suc (suc (suc i))))))) t e = absurd (cc)

-- ## Types of declarations

-- among seven types or more
pub val_type_valid : (end : ℕ) (k : VariableType) → 7 ≤ end → IsValidType end (val_type k)
val_type_valid end Int le = refl
val_type_valid end (Resumption h) le = lt-ltb 1 end (omega (arith, le))
val_type_valid end Coroutine le = lt-ltb 6 end (omega (arith, le))

val_types_valid : (ps : List Parameter) → All (IsValidType 7) (val_types ps)
val_types_valid [] = no_types 7
val_types_valid (p ∷ ps) = All-cons (IsValidType 7) (val_type p.ty) (val_types ps) (val_type_valid 7 p.ty (omega arith)) (val_types_valid ps)

numbers_valid : (n : ℕ) → All (IsValidType 7) (numbers n)
numbers_valid zero = no_types 7
numbers_valid (suc n) = All-cons (IsValidType 7) val.I64 (numbers n) refl (numbers_valid n)

one_continuation : (b : Bool) (x : ℕ) → x < 7 → All (IsValidType 7) (to_continuation b x ∷ [])
one_continuation b x l = All-cons (IsValidType 7) (to_continuation b x) [] (lt-ltb x 7 l) (no_types 7)

clause_valid : (ts : List CompType) (n : ℕ) → IsValidCompType ts 7 (clause_type n)
clause_valid ts n = (no_types 7, All-append (IsValidType 7) (numbers n) (to_continuation false resumption_type ∷ []) (numbers_valid n) (one_continuation false 1 (omega arith)))

clauses_valid : (ts : List CompType) (cs : List Clause) (t : CompType) → IsThere t (clause_types cs) → IsValidCompType ts 7 t
clauses_valid ts [] t h = absurd (omega (arith, h))
clauses_valid ts (c ∷ cs) t h = elim (there_cases t (clause_type (length c.arguments)) (clause_types cs) h) [
  | inl e ↦ subst (λ (u : CompType). IsValidCompType ts 7 u) e (clause_valid ts (length c.arguments))
  | inr r ↦ clauses_valid ts cs t r
]

only : (t u : CompType) → IsThere t (u ∷ []) → u ≡ t
only t u h = elim (there_cases t u [] h) [ inl e ↦ e | inr none ↦ absurd (omega (arith, none)) ]

pub definition_valid : (ts : List CompType) (d : Definition) (t : CompType) → IsThere t (types_for d) → IsValidCompType ts 7 t
definition_valid ts (definition.Effect n) t h = subst (λ (u : CompType). IsValidCompType ts 7 u) (only t (effect_type n.value) h) (numbers_valid n.value, one_number 7)
definition_valid ts (definition.Function f) t h = subst (λ (u : CompType). IsValidCompType ts 7 u) (only t (function_type f.parameters) h) (val_types_valid f.parameters, one_number 7)
definition_valid ts (definition.Handler i) t h = elim (there_cases t (handler_type i.parameters) (clause_types i.clauses) h) [
  | inl e ↦ subst (λ (u : CompType). IsValidCompType ts 7 u) e
      (All-append (IsValidType 7) (val_types i.parameters) (to_continuation true computation_type ∷ []) (val_types_valid i.parameters) (one_continuation true 3 (omega arith)), one_number 7)
  | inr r ↦ clauses_valid ts i.clauses t r
]
definition_valid ts (definition.Slots s) t h = absurd (omega (arith, h))

all_valid : (ts : List CompType) (ds : List Declaration) (t : CompType) → IsThere t (types_for_all ds) → IsValidCompType ts 7 t
all_valid ts [] t h = absurd (omega (arith, h))
all_valid ts (d ∷ ds) t h = elim (there_either t (types_for d.definition) (types_for_all ds) h) [ inl l ↦ definition_valid ts d.definition t l | inr r ↦ all_valid ts ds t r ]

-- the function types of a script
pub functions_sound : (ds : List Declaration) → AreSound (function_types ds)
functions_sound ds = sound_more first_types (types_for_all ds) first_sound (all_valid first_types ds)

-- ## Continuations

-- a function without parameters has the type of computations
none_there : (ds : List Declaration) → IsThere (function_type []) (function_types ds)
none_there ds = (keeps (from_to [] (val.I64 ∷ [])) first_types (types_for_all ds) (omega arith)).1

parameters_there : (ds : List Declaration) (x : Name) (o : Option Entry) → option_map (λ (e : Entry). e.definition) o ≡ definition_of ds x → IsThere (function_type (parameters_in o)) (function_types ds)
parameters_there ds x None is = none_there ds
parameters_there ds x (Some e) is = by e.definition is
  where
    by : (d : Definition) → Some d ≡ definition_of ds x → IsThere (function_type (parameters_in (Some (record { definition = d; number = e.number })))) (function_types ds)
    by (definition.Effect n) q = none_there ds
    by (definition.Function f) q = in_function_types (function_type f.parameters) ds (types_among (function_type f.parameters) ds x (definition.Function f) (sym q) (here (function_type f.parameters) []))
    by (definition.Handler h) q = none_there ds
    by (definition.Slots s) q = none_there ds

-- the function type of a name's continuations is there
continued_there : (ds : List Declaration) (x : Name) → IsThere (function_type (parameters_of ds x)) (function_types ds)
continued_there ds x = parameters_there ds x (entry_of ds x) (entry_defines no_counts ds x)

continuations_valid : (ds es : List Declaration) (t : CompType) → IsThere t (continuations ds es) → IsValidCompType (function_types ds) (length (function_types ds)) t
continuations_valid ds [] t h = absurd (omega (arith, h))
continuations_valid ds (e ∷ es) t h = elim (there_cases t (continuation_of ds (parameters_of ds e.name)) (continuations ds es) h) [
  | inl same ↦ subst (λ (u : CompType). IsValidCompType (function_types ds) (length (function_types ds)) u) same
      (continued_there ds e.name, record { params = val_types (parameters_of ds e.name); results = val.I64 ∷ [] }, stands (function_type (parameters_of ds e.name)) (function_types ds) (continued_there ds e.name))
  | inr r ↦ continuations_valid ds es t r
]

pub table_sound : (ds : List Declaration) → AreSound (type_table ds)
table_sound ds = sound_more (function_types ds) (continuations ds (handled ds)) (functions_sound ds) (continuations_valid ds (handled ds))

-- ## In the module

-- each type is valid
pub type_valid : (ds : List Declaration) (i : ℕ) → i < length (types_of (lowered_all ds).types) → TypeValid (lowered_all ds) i
type_valid ds i h =
    let is = types_of_groups (type_table ds) in
    let within : i < length (type_table ds) = subst (λ (us : List CompType). i < length us) is h in
    let t = item (type_table ds) i within in
    record {
      type = alone_of t.0;
      end = end_of i;
      is = end_at (type_table ds) i t.0 (seven_types ds) t.1;
      valid = subst (λ (us : List CompType). IsValidCompType us (end_of i) t.0) (sym is) (table_sound ds i t.0 t.1);
      supertypes = tt;
    }
