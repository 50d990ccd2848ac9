-- What each declaration of a script that breaks no rule keeps.
use Rattle.std.proofs.Common.{◌≡◌, ℕ, zero, suc, ◌≤◌, Bool, true, false, not, ◌||◌, ◌&&◌, List, [], ◌∷◌, ◌++◌, length, Option, Some, None, if◌then◌else◌, refl, sym, ap, ◌∙◌, subst, arith}
use Rattle.std.specs.Prelude.{nat_lt, nat_eq, slice_get}
use Rattle.std.specs.Str.{bytes_eq}
use Rattle.lists.proofs.Tests.{each_of}
use Rattle.std.proofs.lemmas.Bool.{eqb-true, ltb-false, ltb-true}
use Rattle.s_syntax.specs.declared.name.Name.{Name}
use Rattle.s_syntax.specs.declared.script.VariableType.TheVariants.{Resumption}
use Rattle.s_syntax.specs.declared.script.Parameter.{Parameter}
use Rattle.s_syntax.specs.declared.script.Clause.{Clause}
use Rattle.s_syntax.specs.declared.script.Handler.{Handler}
use Rattle.s_syntax.specs.declared.script.Definition.{Definition}
use Rattle.s_syntax.specs.declared.script.Definition.TheVariants as definition
use Rattle.s_syntax.specs.declared.script.Declaration.{Declaration}
use Rattle.s_syntax.specs.declared.script.Script.{Script}
use Rattle.s_check.specs.declared.rule.Rule.{Rule}
use Rattle.s_check.specs.declared.rule.Rule.TheVariants as rule
use Rattle.s_check.specs.Definitions.{definition_of, as_effect, effect_of}
use Rattle.s_check.specs.Refusal.{first, Has, Good}
use Rattle.s_check.specs.Rules.{when, in_type, in_types, in_parameters, in_head, in_clauses, in_body, in_header, in_bodies, in_definition, in_declaration, in_declarations, in_main, broken_rules}
use Rattle.s_check.specs.Scopes.{is_among, of_clause, of_return}
use Rattle.s_meaning.proofs.Scopes.{same_refl}
use Rattle.s_valid.proofs.NumbersInModules.{get_left}

-- ## No rule

pub parts : (xs ys : List Rule) → xs ++ ys ≡ [] → (xs ≡ []) × (ys ≡ [])
parts [] ys e = (refl, e)
parts (x ∷ xs) ys e = absurd (cc)

pub when_not : (b : Bool) (r : Rule) → when b r ≡ [] → b ≡ false
when_not true r e = absurd (cc)
when_not false r e = refl

pub not_false : (b : Bool) → not b ≡ false → b ≡ true
not_false true e = refl
not_false false e = absurd (cc)

neither : (a b : Bool) → (a || b) ≡ false → (a ≡ false) × (b ≡ false)
neither true b e = absurd (cc)
neither false b e = (refl, e)

-- of these lists, none has a rule
abbrev pub AreEmpty : List (List Rule) → Type 0
AreEmpty lists = (k : ℕ) (rs : List Rule) → slice_get lists k ≡ Some rs → rs ≡ []

no_rules : (lists : List (List Rule)) → ((d : ℕ) (r : Rule) → Has lists d r → ⊥) → AreEmpty lists
no_rules lists good k [] there = refl
no_rules lists good k (r ∷ rs) there = absurd (good k r (record { rules = r ∷ rs; there = there; is = first }))

pub good_empty : (p : Script) → Good p → AreEmpty (in_declarations p.declarations [] p.declarations)
good_empty p good k rs there =
    no_rules (broken_rules p.declarations) good.none k rs (get_left (in_declarations p.declarations [] p.declarations) (in_main p.declarations ∷ []) k rs there)

-- ## Each declaration

pub keeps_rules : (ds : List Declaration) (before : List Name) (es : List Declaration) → AreEmpty (in_declarations ds before es) → (k : ℕ) (e : Declaration) → slice_get es k ≡ Some e → in_definition ds e.name e.definition ≡ []
keeps_rules ds before [] none k e at = absurd (cc)
keeps_rules ds before (d ∷ es) none zero e at =
    let same : d ≡ e = cc in
    subst (λ (c : Declaration). in_definition ds c.name c.definition ≡ []) same
    (parts (when (is_among before d.name) rule.NameDeclaredTwice) (in_definition ds d.name d.definition) (none zero (in_declaration ds before d) refl)).1
keeps_rules ds before (d ∷ es) none (suc k) e at = keeps_rules ds (d.name ∷ before) es (λ j rs. none (suc j) rs) k e at

-- no name stands before it, and it is what its name stands for
pub first_of_name : (ds : List Declaration) (before : List Name) (es : List Declaration) → AreEmpty (in_declarations ds before es) → (k : ℕ) (e : Declaration) → slice_get es k ≡ Some e
    → (is_among before e.name ≡ false) × (definition_of es e.name ≡ Some e.definition)
first_of_name ds before [] none k e at = absurd (cc)
first_of_name ds before (d ∷ es) none zero e at =
    let same : d ≡ e = cc in
    subst (λ (c : Declaration). (is_among before c.name ≡ false) × (definition_of (d ∷ es) c.name ≡ Some c.definition)) same (
      when_not (is_among before d.name) rule.NameDeclaredTwice (parts (when (is_among before d.name) rule.NameDeclaredTwice) (in_definition ds d.name d.definition) (none zero (in_declaration ds before d) refl)).0,
      ap (λ (b : Bool). if b then Some d.definition else definition_of es d.name) (same_refl d.name),
    )
first_of_name ds before (d ∷ es) none (suc k) e at =
    let q = first_of_name ds (d.name ∷ before) es (λ j rs. none (suc j) rs) k e at in
    let n = neither (bytes_eq d.name e.name) (is_among before e.name) q.0 in
    (n.1, ap (λ (b : Bool). if b then Some d.definition else definition_of es e.name) n.0 ∙ q.1)

-- what a name stands for is declared
pub record Declares (ds : List Declaration) (d : Definition) : Type 0 where
  pub place : ℕ
  pub declaration : Declaration
  pub is : slice_get ds place ≡ Some declaration
  pub defines : declaration.definition ≡ d

pub declares : (ds : List Declaration) (x : Name) (d : Definition) → definition_of ds x ≡ Some d → Declares ds d
declares [] x d e = absurd (cc)
declares (c ∷ ds) x d e = by (bytes_eq c.name x) e (declares ds x d)
  where
    by : (b : Bool) → (if b then Some c.definition else definition_of ds x) ≡ Some d → (definition_of ds x ≡ Some d → Declares ds d) → Declares (c ∷ ds) d
    by true q rest = record { place = 0; declaration = c; is = refl; defines = cc q }
    by false q rest = let r = rest q in record { place = suc r.place; declaration = r.declaration; is = r.is; defines = r.defines }

-- ## Few

-- at most eight parameters, and arguments; at most 65536 places
abbrev pub IsSmall : Definition → Type 0
IsSmall (definition.Effect n) = n.value ≤ 8
IsSmall (definition.Function f) = length f.parameters ≤ 8
IsSmall (definition.Handler h) = (length h.parameters ≤ 8) × ((n : ℕ) (c : Clause) → slice_get h.clauses n ≡ Some c → length c.arguments ≤ 8)
IsSmall (definition.Slots s) = s.places.value ≤ 65536

few_parameters : (ds : List Declaration) (ps : List Parameter) → in_parameters ds ps ≡ [] → length ps ≤ 8
few_parameters ds ps e = ltb-false 8 (length ps) (when_not (nat_lt 8 (length ps)) rule.TooManyParameters (parts (when (nat_lt 8 (length ps)) rule.TooManyParameters) (in_types ds ps) e).0)

head_number : (o : Option ℕ) (before : List Name) (c : Clause) → in_head o before c ≡ [] → o ≡ Some (length c.arguments)
head_number None before c e = absurd (cc)
head_number (Some n) before c e =
    let t = parts (when (is_among before c.effect) rule.ClauseForEffectTwice) (when (not (nat_eq (length c.arguments) n)) rule.OtherNumberInClause) e in
    ap Some (sym (eqb-true (length c.arguments) n (not_false (nat_eq (length c.arguments) n) (when_not (not (nat_eq (length c.arguments) n)) rule.OtherNumberInClause t.1))))

clause_effect : (ds : List Declaration) (h : Name) (i : Handler) (before : List Name) (cs : List Clause) → in_clauses ds h i before cs ≡ [] → (n : ℕ) (c : Clause) → slice_get cs n ≡ Some c
    → effect_of ds c.effect ≡ Some (length c.arguments)
clause_effect ds h i before [] q n c e = absurd (cc)
clause_effect ds h i before (d ∷ cs) q zero c e =
    let same : d ≡ c = cc in
    let t = parts (in_head (effect_of ds d.effect) before d ++ in_body ds (of_clause h i d) d.body) (in_clauses ds h i (d.effect ∷ before) cs) q in
    let u = parts (in_head (effect_of ds d.effect) before d) (in_body ds (of_clause h i d) d.body) t.0 in
    subst (λ (k : Clause). effect_of ds k.effect ≡ Some (length k.arguments)) same (head_number (effect_of ds d.effect) before d u.0)
clause_effect ds h i before (d ∷ cs) q (suc n) c e =
    let t = parts (in_head (effect_of ds d.effect) before d ++ in_body ds (of_clause h i d) d.body) (in_clauses ds h i (d.effect ∷ before) cs) q in
    clause_effect ds h i (d.effect ∷ before) cs t.1 n c e

-- an effect is no function, and has few arguments
effect_small : (ds : List Declaration) (x : Name) (d : Definition) → in_definition ds x d ≡ [] → (n : ℕ) → as_effect (Some d) ≡ Some n → n ≤ 8
effect_small ds x (definition.Effect k) q n e =
    let few = ltb-false 8 k.value (when_not (nat_lt 8 k.value) rule.EffectOfTooMany q) in
    let same : k.value ≡ n = cc e in
    omega (arith, few, same)
effect_small ds x (definition.Function f) q n e = absurd (cc)
effect_small ds x (definition.Handler h) q n e = absurd (cc)
effect_small ds x (definition.Slots s) q n e = absurd (cc)

effect_few : (ds : List Declaration) → AreEmpty (in_declarations ds [] ds) → (x : Name) (n : ℕ) → effect_of ds x ≡ Some n → n ≤ 8
effect_few ds none x n e = by (definition_of ds x) refl e
  where
    by : (o : Option Definition) → definition_of ds x ≡ o → as_effect o ≡ Some n → n ≤ 8
    by None is q = absurd (cc)
    by (Some d) is q =
        let k = declares ds x d is in
        let r = keeps_rules ds [] ds none k.place k.declaration k.is in
        effect_small ds k.declaration.name d (subst (λ (c : Definition). in_definition ds k.declaration.name c ≡ []) k.defines r) n q

few_places : (n : ℕ) → (nat_lt 0 n && nat_lt n 65537) ≡ true → n ≤ 65536
few_places n e = let lt = ltb-true n 65537 (each_of (nat_lt 0 n) (nat_lt n 65537) e).1 in omega (arith, lt)

small_definition : (ds : List Declaration) → AreEmpty (in_declarations ds [] ds) → (x : Name) (d : Definition) → in_definition ds x d ≡ [] → IsSmall d
small_definition ds none x (definition.Effect k) q = ltb-false 8 k.value (when_not (nat_lt 8 k.value) rule.EffectOfTooMany q)
small_definition ds none x (definition.Function f) q = few_parameters ds f.parameters (parts (in_parameters ds f.parameters) _ q).0
small_definition ds none x (definition.Handler h) q =
    let t = parts (in_header ds h) (in_bodies ds x h) q in
    let u = parts (in_parameters ds h.parameters) _ t.0 in
    let v = parts (in_body ds (of_return h) h.return_clause.body) (in_clauses ds x h [] h.clauses) t.1 in
    (few_parameters ds h.parameters u.0, λ n c at. effect_few ds none c.effect (length c.arguments) (clause_effect ds x h [] h.clauses v.1 n c at))
small_definition ds none x (definition.Slots s) q =
    let n = s.places.value in
    let t = parts (in_type ds (Resumption s.handler)) (when (not (nat_lt 0 n && nat_lt n 65537)) rule.SlotsOfOtherNumber) q in
    few_places n (not_false (nat_lt 0 n && nat_lt n 65537) (when_not (not (nat_lt 0 n && nat_lt n 65537)) rule.SlotsOfOtherNumber t.1))

-- each declaration has few
pub small : (p : Script) → Good p → (k : ℕ) (e : Declaration) → slice_get p.declarations k ≡ Some e → IsSmall e.definition
small p good k e at =
    let none = good_empty p good in
    small_definition p.declarations none e.name e.definition (keeps_rules p.declarations [] p.declarations none k e at)
