-- In a script that breaks no rule no body binds a name twice: each name has the type that it is bound with.
use Rattle.std.proofs.Common.{◌≡◌, ℕ, zero, suc, Bool, true, false, ◌||◌, List, [], ◌∷◌, ◌++◌, map, Some, slice_get, if◌then◌else◌, refl, sym, ap, ◌∙◌, append-nil}
use Rattle.std.proofs.lemmas.List.{map-append}
use Rattle.std.specs.Str.{bytes_eq}
use Rattle.s_syntax.specs.declared.name.Name.{Name}
use Rattle.s_syntax.specs.declared.script.Function.{Function}
use Rattle.s_syntax.specs.declared.script.Definition.{Definition}
use Rattle.s_syntax.specs.declared.script.Definition.TheVariants as definition
use Rattle.s_syntax.specs.declared.script.Declaration.{Declaration}
use Rattle.s_syntax.specs.declared.script.Script.{Script}
use Rattle.s_syntax.specs.BlockTree.{BlockTree}
use Rattle.s_check.specs.declared.rule.Rule.{Rule}
use Rattle.s_check.specs.declared.rule.Rule.TheVariants as rule
use Rattle.s_check.specs.Definitions.{definition_of, function_of}
use Rattle.s_check.specs.Refusal.{first, Has, Good}
use Rattle.s_check.specs.Rules.{when, in_block, in_body, in_parameters, in_definition, in_declaration, in_declarations, in_main, broken_rules}
use Rattle.s_check.specs.Scopes.{Bound, Scope, type_in, bind_all, parameter, lets_in, is_among, some_twice}
use Rattle.s_code.specs.Places.{binds_in, function_names}
use Rattle.s_code.proofs.Binds.{names_in}
use Rattle.s_meaning.proofs.BoundInTurn.{or_left, or_right, among_left, twice_of}
use Rattle.s_meaning.proofs.Good.{parts, when_not, is_function}
use Rattle.s_meaning.proofs.Lists.{get_before}
use Rattle.s_meaning.proofs.Scopes.{same_is, same_refl, bool_of}
use Rattle.s_valid.proofs.LayoutTypes.{EachTyped}

-- ## Names that are bound once

abbrev names : Scope → List Name
names bs = map (λ (b : Bound). b.name) bs

named : (bs : Scope) (j : ℕ) (b : Bound) → slice_get bs j ≡ Some b → is_among (names bs) b.name ≡ true
named [] j b e = absurd (cc)
named (c ∷ bs) zero b e = let same : c ≡ b = cc in or_left (bytes_eq c.name b.name) (is_among (names bs) b.name) (ap (λ (d : Bound). bytes_eq d.name b.name) same ∙ same_refl b.name)
named (c ∷ bs) (suc j) b e = or_right (bytes_eq c.name b.name) (is_among (names bs) b.name) (named bs j b e)

pub neither : (a b : Bool) → (a || b) ≡ false → b ≡ false
neither true b e = absurd (cc)
neither false b e = e

-- where no name stands twice, each has the type that it is bound with
once_typed : (before : List Name) (bs : Scope) (ms : List Name) → some_twice before (names bs ++ ms) ≡ false → (j : ℕ) (b : Bound) → slice_get bs j ≡ Some b → type_in bs b.name ≡ Some b.ty
once_typed before [] ms once j b e = absurd (cc)
once_typed before (c ∷ bs) ms once zero b e =
    let same : c ≡ b = cc in
    ap (λ (q : Bool). if q then Some c.ty else type_in bs b.name) (ap (λ (d : Bound). bytes_eq d.name b.name) same ∙ same_refl b.name) ∙ ap (λ (d : Bound). Some d.ty) same
once_typed before (c ∷ bs) ms once (suc j) b e =
    let later = once_typed (c.name ∷ before) bs ms (neither (is_among before c.name) (some_twice (c.name ∷ before) (names bs ++ ms)) once) j b e in
    bool_of (bytes_eq c.name b.name) (λ q. (if q then Some c.ty else type_in bs b.name) ≡ Some b.ty)
    (λ q. let twice = twice_of b.name before (c.name ∷ []) (names bs ++ ms) (or_left (bytes_eq c.name b.name) false q) (among_left b.name (names bs) ms (named bs j b e)) in
    let no : true ≡ false = sym twice ∙ once in absurd (cc))
    (λ q. later)

-- each name at the start of a body that breaks no rule
pub body_names : (ds : List Declaration) (bs : Scope) (b : BlockTree) → in_body ds bs b ≡ [] → (j : ℕ) (c : Bound) → slice_get bs j ≡ Some c → type_in bs c.name ≡ Some c.ty
body_names ds bs b q =
    let t = parts (when (some_twice [] (names bs ++ lets_in b)) rule.NameBoundTwice) (in_block ds (bind_all bs []) b) q in
    once_typed [] bs (lets_in b) (when_not (some_twice [] (names bs ++ lets_in b)) rule.NameBoundTwice t.0)

-- and each name that such a body binds
pub each_typed : (ds : List Declaration) (bs : Scope) (b : BlockTree) → in_body ds bs b ≡ [] → EachTyped (bs ++ binds_in ds b)
each_typed ds bs b q =
    let t = parts (when (some_twice [] (names bs ++ lets_in b)) rule.NameBoundTwice) (in_block ds (bind_all bs []) b) q in
    let all : names (bs ++ binds_in ds b) ++ [] ≡ names bs ++ lets_in b =
    append-nil (names (bs ++ binds_in ds b)) ∙ map-append (λ (c : Bound). c.name) bs (binds_in ds b) ∙ ap (λ (xs : List Name). names bs ++ xs) (names_in ds b) in
    record {
      typed = once_typed [] (bs ++ binds_in ds b) []
          (ap (λ (xs : List Name). some_twice [] xs) all ∙ when_not (some_twice [] (names bs ++ lets_in b)) rule.NameBoundTwice t.0);
    }

-- ## Functions

-- lists of which none has a rule
pub no_rules : (lists : List (List Rule)) → ((d : ℕ) (r : Rule) → Has lists d r → ⊥) → (d : ℕ) (rs : List Rule) → slice_get lists d ≡ Some rs → rs ≡ []
no_rules lists none d [] e = refl
no_rules lists none d (r ∷ rs) e = absurd (none d r (record { rules = r ∷ rs; there = e; is = first }))

-- what a name stands for breaks no rule where no declaration does
pub definition_keeps : (ds : List Declaration) (before : List Name) (es : List Declaration) (x : Name) (d : Definition)
    → ((n : ℕ) (rs : List Rule) → slice_get (in_declarations ds before es) n ≡ Some rs → rs ≡ []) → definition_of es x ≡ Some d → in_definition ds x d ≡ []
definition_keeps ds before [] x d none e = absurd (cc)
definition_keeps ds before (c ∷ es) x d none e =
    bool_of (bytes_eq c.name x) (λ b. (if b then Some c.definition else definition_of es x) ≡ Some d → in_definition ds x d ≡ [])
    (λ q g.
    let u = parts (when (is_among before c.name) rule.NameDeclaredTwice) (in_definition ds c.name c.definition) (none 0 (in_declaration ds before c) refl) in
    let same : c.definition ≡ d = cc g in
    ap (λ (y : Name). in_definition ds y d) (same_is x c.name q) ∙ ap (λ (y : Definition). in_definition ds c.name y) (sym same) ∙ u.1)
    (λ q g. definition_keeps ds (c.name ∷ before) es x d (λ n. none (suc n)) g) e

-- the names of a function of a script that breaks no rule
pub function_each : (p : Script) → Good p → (f : Name) (g : Function) → function_of p.declarations f ≡ Some g → EachTyped (function_names p.declarations g)
function_each p good f g e =
    let all = in_declarations p.declarations [] p.declarations in
    let q = definition_keeps p.declarations [] p.declarations f (definition.Function g)
    (λ n rs at. no_rules (broken_rules p.declarations) good.none n rs (get_before all (in_main p.declarations ∷ []) n rs at)) (is_function (definition_of p.declarations f) g e) in
    let t = parts (in_parameters p.declarations g.parameters) (in_body p.declarations (map parameter g.parameters) g.body) q in
    each_typed p.declarations (map parameter g.parameters) g.body t.1
