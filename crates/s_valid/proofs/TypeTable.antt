-- The types of the module of a script stand in it, each at its index.
use Rattle.std.proofs.Common.{◌≡◌, inl, inr, ℕ, zero, suc, ◌≤◌, Bool, true, false, List, [], ◌∷◌, ◌++◌, length, Option, Some, None, if◌then◌else◌, refl, sym, ap, ◌∙◌, subst, arith}
use Rattle.std.specs.Prelude.{slice_get}
use Rattle.std.specs.Str.{bytes_eq}
use Rattle.w_types.specs.declared.types.CompType.{CompType}
use Rattle.w_types.specs.declared.types.CompType.TheVariants.{Func}
use Rattle.w_types.specs.declared.types.FuncType.{FuncType}
use Rattle.w_types.specs.declared.types.RecGroup.{RecGroup}
use Rattle.w_types.specs.Groups.{types_of}
use Rattle.w_syntax.specs.Functions.{function_type as function_type_in}
use Rattle.w_rules.specs.Context.{Context, type_of, func_of}
use Rattle.s_syntax.specs.declared.name.Name.{Name}
use Rattle.s_syntax.specs.declared.script.Function.{Function}
use Rattle.s_syntax.specs.declared.script.Clause.{Clause}
use Rattle.s_syntax.specs.declared.script.Handler.{Handler}
use Rattle.s_syntax.specs.declared.script.Definition.{Definition}
use Rattle.s_syntax.specs.declared.script.Definition.TheVariants as definition
use Rattle.s_syntax.specs.declared.script.Declaration.{Declaration}
use Rattle.s_check.specs.Definitions.{definition_of, as_function, as_handler}
use Rattle.s_index.specs.Types.{place, first_types, clause_type, clause_types, types_for, types_for_all}
use Rattle.s_index.specs.Indices.{function_types, type_table, continuations}
use Rattle.s_index.specs.Handled.{handled}
use Rattle.s_code.specs.Lowered.{grouped}
use Rattle.s_valid.proofs.MadeOnce.{IsThere, stands, here, there_cases, there_left, there_right, keeps, adds, more_types}
use Rattle.s_valid.proofs.TypeGroups.{types_of_groups}

-- ## Declarations

pub is_function : (o : Option Definition) (g : Function) → as_function o ≡ Some g → o ≡ Some (definition.Function g)
is_function None g e = absurd (cc)
is_function (Some (definition.Effect n)) g e = absurd (cc)
is_function (Some (definition.Function f)) g e = ap (λ (x : Function). Some (definition.Function x)) (cc e)
is_function (Some (definition.Handler h)) g e = absurd (cc)
is_function (Some (definition.Slots s)) g e = absurd (cc)

pub is_handler : (o : Option Definition) (i : Handler) → as_handler o ≡ Some i → o ≡ Some (definition.Handler i)
is_handler None i e = absurd (cc)
is_handler (Some (definition.Effect n)) i e = absurd (cc)
is_handler (Some (definition.Function f)) i e = absurd (cc)
is_handler (Some (definition.Handler h)) i e = ap (λ (x : Handler). Some (definition.Handler x)) (cc e)
is_handler (Some (definition.Slots s)) i e = absurd (cc)

-- the types of a declaration are among those of all
pub types_among : (t : CompType) (ds : List Declaration) (x : Name) (d : Definition) → definition_of ds x ≡ Some d → IsThere t (types_for d) → IsThere t (types_for_all ds)
types_among t [] x d e h = absurd (cc)
types_among t (c ∷ ds) x d e h = by (bytes_eq c.name x) e (λ q. types_among t ds x d q h)
  where
    by : (b : Bool) → (if b then Some c.definition else definition_of ds x) ≡ Some d → (definition_of ds x ≡ Some d → IsThere t (types_for_all ds)) → IsThere t (types_for c.definition ++ types_for_all ds)
    by true q rest = there_left t (types_for c.definition) (types_for_all ds) (subst (λ (k : Definition). IsThere t (types_for k)) (sym (cc q)) h)
    by false q rest = there_right t (types_for c.definition) (types_for_all ds) (rest q)

-- a function type that is wanted is there, and stays at its place
pub in_function_types : (t : CompType) (ds : List Declaration) → IsThere t (types_for_all ds) → IsThere t (function_types ds)
in_function_types t ds h = adds t first_types (types_for_all ds) h

pub in_table : (t : CompType) (ds : List Declaration) → IsThere t (function_types ds) → (place t (type_table ds) ≡ place t (function_types ds)) × IsThere t (type_table ds)
in_table t ds h = keeps t (function_types ds) (continuations ds (handled ds)) h

-- the first types stand where they stand without others
pub first_in_table : (t : CompType) (ds : List Declaration) → IsThere t first_types → (place t (type_table ds) ≡ place t first_types) × IsThere t (type_table ds)
first_in_table t ds h =
    let f = keeps t first_types (types_for_all ds) h in
    let q = in_table t ds f.1 in
    (q.0 ∙ f.0, q.1)

-- so there are seven types or more
pub seven_types : (ds : List Declaration) → 7 ≤ length (type_table ds)
seven_types ds = let f = more_types first_types (types_for_all ds) in let q = more_types (function_types ds) (continuations ds (handled ds)) in omega (arith, f, q)

-- ## In the context of the module

-- a type of the table, by its index
pub type_there : (t : CompType) (ds : List Declaration) (C : Context) → C.types ≡ grouped (type_table ds) → IsThere t (type_table ds) → type_of C (place t (type_table ds)) ≡ Some t
type_there t ds C is h =
    ap (λ (gs : List RecGroup). slice_get (types_of gs) (place t (type_table ds))) is
    ∙ ap (λ (ts : List CompType). slice_get ts (place t (type_table ds))) (types_of_groups (type_table ds))
    ∙ stands t (type_table ds) h

-- one that a declaration wants
pub func_there : (t : FuncType) (ds : List Declaration) (C : Context) → C.types ≡ grouped (type_table ds) → IsThere (Func t) (types_for_all ds) → func_of C (place (Func t) (type_table ds)) ≡ Some t
func_there t ds C is h = ap function_type_in (type_there (Func t) ds C is (in_table (Func t) ds (in_function_types (Func t) ds h)).1)

-- one of the first
pub first_type : (t : CompType) (ds : List Declaration) (C : Context) → C.types ≡ grouped (type_table ds) → IsThere t first_types → type_of C (place t first_types) ≡ Some t
first_type t ds C is h =
    let q = first_in_table t ds h in
    ap (λ (x : ℕ). type_of C x) (sym q.0) ∙ type_there t ds C is q.1

-- the type of a clause is among those of its handler
pub clause_among : (cs : List Clause) (n : ℕ) (c : Clause) → slice_get cs n ≡ Some c → IsThere (clause_type (length c.arguments)) (clause_types cs)
clause_among [] n c e = absurd (cc)
clause_among (d ∷ cs) zero c e = let same : d ≡ c = cc in subst (λ (k : Clause). IsThere (clause_type (length k.arguments)) (clause_types (d ∷ cs))) same (here (clause_type (length d.arguments)) (clause_types cs))
clause_among (d ∷ cs) (suc n) c e = there_right (clause_type (length c.arguments)) (clause_type (length d.arguments) ∷ []) (clause_types cs) (clause_among cs n c e)

-- and what holds of each clause's type holds of all of those
pub clauses_have : (P : CompType → Type 0) (cs : List Clause) → ((n : ℕ) (c : Clause) → slice_get cs n ≡ Some c → P (clause_type (length c.arguments))) → (t : CompType) → IsThere t (clause_types cs) → P t
clauses_have P [] each t h = absurd (omega (arith, h))
clauses_have P (c ∷ cs) each t h = elim (there_cases t (clause_type (length c.arguments)) (clause_types cs) h) [
  | inl e ↦ subst P e (each 0 c refl)
  | inr r ↦ clauses_have P cs (λ n d e. each (suc n) d e) t r
]
