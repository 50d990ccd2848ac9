-- A function that some handle, group or spawn names is among those that are handled; so its continuations have a type, and it is declared.
-- No other function's have one.
use Rattle.std.proofs.Common.{◌≡◌, inl, inr, ℕ, zero, suc, ◌<◌, Bool, true, false, cond, List, [], ◌∷◌, ◌++◌, map, filter, length, Option, Some, if◌then◌else◌, refl, sym, ap, ◌∙◌, subst, arith}
use Rattle.std.specs.List.{flat_map}
use Rattle.std.specs.Prelude.{Contains, slice_get, slice_index_or, option_map}
use Rattle.std.specs.Str.{bytes_eq}
use Rattle.std.proofs.lemmas.List.{append-nil}
use Rattle.std.proofs.lemmas.Option.{slice_get-map}
use Rattle.w_types.specs.declared.types.CompType.{CompType}
use Rattle.w_syntax.specs.Items.{reference_to}
use Rattle.w_syntax.specs.declared.module.Elem.{Elem}
use Rattle.w_syntax.specs.declared.module.Table.{Table}
use Rattle.w_rules.specs.Spaces.{declared_of, functions_of, named_in, named_in_some, named_of}
use Rattle.w_rules.proofs.Marks.{declared_decided}
use Rattle.s_syntax.specs.declared.name.Name.{Name}
use Rattle.s_syntax.specs.declared.script.Function.{Function}
use Rattle.s_syntax.specs.declared.script.Definition.{Definition}
use Rattle.s_syntax.specs.declared.script.Definition.TheVariants as definition
use Rattle.s_syntax.specs.declared.script.Declaration.{Declaration}
use Rattle.s_check.specs.Definitions.{definition_of, function_of}
use Rattle.s_check.specs.Scopes.{is_among}
use Rattle.s_index.specs.Handled.{is_function_among, handled_names, handled}
use Rattle.s_index.specs.Indices.{continuation_of, continuations, parameters_of}
use Rattle.s_index.specs.Numbers.{function_index}
use Rattle.s_code.specs.Lowered.{declared, lowered_all}
use Rattle.s_meaning.proofs.Lists.{get_before}
use Rattle.s_meaning.proofs.Scopes.{same_is}
use Rattle.s_valid.proofs.MadeOnce.{IsThere, there_cases, there_at}
use Rattle.s_valid.proofs.TypeTable.{is_function}

-- the declaration of this name is in the list
pub record Stands (es : List Declaration) (f : Name) : Type 0 where
  pub place : ℕ
  pub declaration : Declaration
  pub is : slice_get es place ≡ Some declaration
  pub named : f ≡ declaration.name

first_stands : (c : Declaration) (es : List Declaration) (f : Name) (b : Bool) → b ≡ true → f ≡ c.name → Stands (cond b (c ∷ es) es) f
first_stands c es f true t n = record { place = 0; declaration = c; is = refl; named = n }
first_stands c es f false t n = absurd (cc)

later_stands : (c : Declaration) (es : List Declaration) (f : Name) (b : Bool) → Stands es f → Stands (cond b (c ∷ es) es) f
later_stands c es f true s = record { place = suc s.place; declaration = s.declaration; is = s.is; named = s.named }
later_stands c es f false s = s

-- among those that are kept
pub kept_stands : (names : List Name) (es : List Declaration) (f : Name) (g : Function) → definition_of es f ≡ Some (definition.Function g) → is_among names f ≡ true
    → Stands (filter (λ (d : Declaration). is_function_among names d d.definition) es) f
kept_stands names [] f g e i = absurd (cc)
kept_stands names (c ∷ es) f g e i = by (bytes_eq c.name f) refl e (λ q. kept_stands names es f g q i)
  where
    by : (b : Bool) → bytes_eq c.name f ≡ b → (if b then Some c.definition else definition_of es f) ≡ Some (definition.Function g)
        → (definition_of es f ≡ Some (definition.Function g) → Stands (filter (λ (d : Declaration). is_function_among names d d.definition) es) f)
        → Stands (filter (λ (d : Declaration). is_function_among names d d.definition) (c ∷ es)) f
    by true t q rest =
        let same : c.definition ≡ definition.Function g = cc q in
        let named : f ≡ c.name = same_is f c.name t in
        let kept : is_function_among names c c.definition ≡ true = ap (λ (d : Definition). is_function_among names c d) same ∙ ap (λ (x : Name). is_among names x) (sym named) ∙ i in
        first_stands c (filter (λ (d : Declaration). is_function_among names d d.definition) es) f (is_function_among names c c.definition) kept named
    by false t q rest = later_stands c (filter (λ (d : Declaration). is_function_among names d d.definition) es) f (is_function_among names c c.definition) (rest q)

pub handled_stands : (ds : List Declaration) (f : Name) (g : Function) → function_of ds f ≡ Some g → is_among (handled_names ds) f ≡ true → Stands (handled ds) f
handled_stands ds f g e i = kept_stands (handled_names ds) ds f g (is_function (definition_of ds f) g e) i

-- ## Its continuations

continuation_at : (ds es : List Declaration) (n : ℕ) (d : Declaration) → slice_get es n ≡ Some d → slice_get (continuations ds es) n ≡ Some (continuation_of ds (parameters_of ds d.name))
continuation_at ds [] n d e = absurd (cc)
continuation_at ds (c ∷ es) zero d e = let same : c ≡ d = cc in ap (λ (x : Declaration). Some (continuation_of ds (parameters_of ds x.name))) same
continuation_at ds (c ∷ es) (suc n) d e = continuation_at ds es n d e

-- have a type
pub continuation_there : (ds es : List Declaration) (f : Name) → Stands es f → IsThere (continuation_of ds (parameters_of ds f)) (continuations ds es)
continuation_there ds es f s =
    subst (λ (x : Name). IsThere (continuation_of ds (parameters_of ds x)) (continuations ds es)) (sym s.named)
    (there_at (continuation_of ds (parameters_of ds s.declaration.name)) (continuations ds es) s.place (continuation_at ds es s.place s.declaration s.is))

-- what a type of continuations is of: a function that some handle, group or spawn names
pub record OfHandled (ds : List Declaration) (t : CompType) : Type 0 where
  pub name : Name
  pub is_handled : is_among (handled_names ds) name ≡ true
  pub is : continuation_of ds (parameters_of ds name) ≡ t

-- a function that is kept is named
among_functions : (names : List Name) (x : Declaration) (d : Definition) → is_function_among names x d ≡ true → is_among names x.name ≡ true
among_functions names x (definition.Effect n) e = absurd (cc)
among_functions names x (definition.Function f) e = e
among_functions names x (definition.Handler h) e = absurd (cc)
among_functions names x (definition.Slots s) e = absurd (cc)

-- so each type of continuations is of one, of some declarations
kept_handled : (ds es : List Declaration) (t : CompType) → IsThere t (continuations ds (filter (λ (d : Declaration). is_function_among (handled_names ds) d d.definition) es)) → OfHandled ds t
kept_handled ds [] t h = absurd (omega (arith, h))
kept_handled ds (e ∷ es) t h = by (is_function_among (handled_names ds) e e.definition) refl h (kept_handled ds es t)
  where
    by : (b : Bool) → is_function_among (handled_names ds) e e.definition ≡ b
        → IsThere t (continuations ds (cond b (e ∷ filter (λ (d : Declaration). is_function_among (handled_names ds) d d.definition) es) (filter (λ (d : Declaration). is_function_among (handled_names ds) d d.definition) es)))
        → (IsThere t (continuations ds (filter (λ (d : Declaration). is_function_among (handled_names ds) d d.definition) es)) → OfHandled ds t) → OfHandled ds t
    by true q i rest = elim (there_cases t (continuation_of ds (parameters_of ds e.name)) (continuations ds (filter (λ (d : Declaration). is_function_among (handled_names ds) d d.definition) es)) i) [
      | inl same ↦ record { name = e.name; is_handled = among_functions (handled_names ds) e e.definition q; is = same }
      | inr r ↦ rest r
    ]
    by false q i rest = rest i

-- and of all
pub of_handled : (ds : List Declaration) (t : CompType) → IsThere t (continuations ds (handled ds)) → OfHandled ds t
of_handled ds t h = kept_handled ds ds t h

-- ## It is declared

named_by_each : (ds es : List Declaration) → flat_map named_in (map (λ (d : Declaration). reference_to (function_index ds d.name)) es) ≡ map (λ (d : Declaration). function_index ds d.name) es
named_by_each ds [] = refl
named_by_each ds (e ∷ es) = ap (λ (xs : List ℕ). function_index ds e.name ∷ xs) (named_by_each ds es)

-- what the element segment names
pub named_by_segment : (ds es : List Declaration) → flat_map (λ (e : Elem). flat_map named_in e.items) (declared ds es) ≡ map (λ (d : Declaration). function_index ds d.name) es
named_by_segment ds [] = refl
named_by_segment ds (e ∷ es) = append-nil (flat_map named_in (map (λ (d : Declaration). reference_to (function_index ds d.name)) (e ∷ es))) ∙ named_by_each ds (e ∷ es)

contains_at : (xs : List ℕ) (i x : ℕ) → slice_get xs i ≡ Some x → Contains xs x
contains_at [] i x e = absurd (cc)
contains_at (y ∷ xs) zero x e = (0, omega arith, cc)
contains_at (y ∷ xs) (suc i) x e = let c = contains_at xs i x e in (suc c.0, omega (arith, c.1), c.2)

is_marked : (s : List Bool) (x : ℕ) → slice_index_or s x false ≡ true → slice_get s x ≡ Some true
is_marked [] x e = absurd (cc)
is_marked (b ∷ s) zero e = ap Some e
is_marked (b ∷ s) (suc x) e = is_marked s x e

-- what the module names of its functions
pub named_in_module : (ds : List Declaration) (x i : ℕ) → slice_get (map (λ (d : Declaration). function_index ds d.name) (handled ds)) i ≡ Some x → Contains (named_of (lowered_all ds)) x
named_in_module ds x i e =
    let named = flat_map (λ (e : Elem). flat_map named_in e.items) (declared ds (handled ds)) in
    let by_tables = flat_map (λ (t : Table). named_in_some t.init) (lowered_all ds).tables in
    let segment : slice_get (named ++ by_tables) i ≡ Some x = get_before named by_tables i x (ap (λ (xs : List ℕ). slice_get xs i) (named_by_segment ds (handled ds)) ∙ e) in
    contains_at (named_of (lowered_all ds)) (suc i) x segment

-- code may refer to it
pub handled_declared : (ds : List Declaration) (f : Name) → function_index ds f < length (functions_of (lowered_all ds)) → Stands (handled ds) f
    → slice_get (declared_of (lowered_all ds)) (function_index ds f) ≡ Some true
handled_declared ds f within s =
    let at : slice_get (map (λ (d : Declaration). function_index ds d.name) (handled ds)) s.place ≡ Some (function_index ds f) =
    slice_get-map (λ (d : Declaration). function_index ds d.name) (handled ds) s.place
    ∙ ap (λ (o : Option Declaration). option_map (λ (d : Declaration). function_index ds d.name) o) s.is
    ∙ ap (λ (x : Name). Some (function_index ds x)) (sym s.named) in
    is_marked (declared_of (lowered_all ds)) (function_index ds f)
    ((declared_decided (lowered_all ds) (function_index ds f) (slice_index_or (declared_of (lowered_all ds)) (function_index ds f) false) refl).1
    (record { is_there = within; is_named = named_in_module ds (function_index ds f) s.place at }))
