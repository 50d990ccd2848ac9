-- What the rules come to for the declarations of a script that breaks none: how many there are of what is written in place, and bodies that
-- break no rule.
use Rattle.std.proofs.Common.{◌≡◌, ℕ, zero, suc, ◌≤◌, nat_lt, List, [], ◌∷◌, ◌++◌, map, length, Option, Some, None, slice_get, refl, subst, ltb-false}
use Rattle.s_syntax.specs.declared.name.Name.{Name}
use Rattle.s_syntax.specs.declared.number.Number.{Number}
use Rattle.s_syntax.specs.declared.script.Function.{Function}
use Rattle.s_syntax.specs.declared.script.Clause.{Clause}
use Rattle.s_syntax.specs.declared.script.Handler.{Handler}
use Rattle.s_syntax.specs.declared.script.Definition.{Definition}
use Rattle.s_syntax.specs.declared.script.Definition.TheVariants as definition
use Rattle.s_syntax.specs.declared.script.Declaration.{Declaration}
use Rattle.s_syntax.specs.declared.script.Script.{Script}
use Rattle.s_check.specs.declared.rule.Rule.{Rule}
use Rattle.s_check.specs.declared.rule.Rule.TheVariants as rule
use Rattle.s_check.specs.Definitions.{definition_of, as_effect, function_of, handler_of, effect_of}
use Rattle.s_check.specs.Scopes.{parameter, of_clause, of_return}
use Rattle.s_check.specs.Rules.{when, in_body, in_types, in_parameters, in_head, in_clauses, in_header, in_bodies, in_definition, in_declarations, in_main, broken_rules}
use Rattle.s_check.specs.Refusal.{Good}
use Rattle.s_meaning.proofs.Good.{parts, when_not, is_function, is_handler}
use Rattle.s_meaning.proofs.Lists.{get_before}
use Rattle.s_valid.proofs.BoundOnce.{no_rules, definition_keeps}

-- ## Counts

-- a test for more than so many
at_most : (m n : ℕ) (r : Rule) → when (nat_lt m n) r ≡ [] → n ≤ m
at_most m n r e = ltb-false m n (when_not (nat_lt m n) r e)

-- what is declared as an effect
is_effect : (o : Option Definition) (n : ℕ) → as_effect o ≡ Some n → (m : Number) × (o ≡ Some (definition.Effect m)) × (m.value ≡ n)
is_effect None n e = absurd (cc)
is_effect (Some (definition.Effect m)) n e = (m, refl, cc)
is_effect (Some (definition.Function f)) n e = absurd (cc)
is_effect (Some (definition.Handler h)) n e = absurd (cc)
is_effect (Some (definition.Slots s)) n e = absurd (cc)

-- ## Clauses

-- the body of each clause
clause_keeps : (ds : List Declaration) (h : Name) (i : Handler) (before : List Name) (cs : List Clause) → in_clauses ds h i before cs ≡ [] → (n : ℕ) (c : Clause) → slice_get cs n ≡ Some c
    → in_body ds (of_clause h i c) c.body ≡ []
clause_keeps ds h i before [] q n c e = absurd (cc)
clause_keeps ds h i before (d ∷ cs) q zero c e =
    let t = parts (in_head (effect_of ds d.effect) before d ++ in_body ds (of_clause h i d) d.body) (in_clauses ds h i (d.effect ∷ before) cs) q in
    let u = parts (in_head (effect_of ds d.effect) before d) (in_body ds (of_clause h i d) d.body) t.0 in
    let same : d ≡ c = cc in
    subst (λ (x : Clause). in_body ds (of_clause h i x) x.body ≡ []) same u.1
clause_keeps ds h i before (d ∷ cs) q (suc n) c e =
    let t = parts (in_head (effect_of ds d.effect) before d ++ in_body ds (of_clause h i d) d.body) (in_clauses ds h i (d.effect ∷ before) cs) q in
    clause_keeps ds h i (d.effect ∷ before) cs t.1 n c e

-- ## Functions, handlers and effects

pub record FunctionKeeps (ds : List Declaration) (g : Function) : Type 0 where
  pub few : length g.parameters ≤ 8
  pub body : in_body ds (map parameter g.parameters) g.body ≡ []

pub record HandlerKeeps (ds : List Declaration) (h : Name) (i : Handler) : Type 0 where
  pub few : length i.parameters ≤ 8
  pub few_clauses : length i.clauses ≤ 16
  pub returned : in_body ds (of_return i) i.return_clause.body ≡ []
  pub clauses : (n : ℕ) (c : Clause) → slice_get i.clauses n ≡ Some c → in_body ds (of_clause h i c) c.body ≡ []

module _ (p : Script) (good : Good p) where
  -- each definition breaks no rule
  keeps : (x : Name) (d : Definition) → definition_of p.declarations x ≡ Some d → in_definition p.declarations x d ≡ []
  keeps x d e =
      let all = in_declarations p.declarations [] p.declarations in
      definition_keeps p.declarations [] p.declarations x d
      (λ n rs at. no_rules (broken_rules p.declarations) good.none n rs (get_before all (in_main p.declarations ∷ []) n rs at)) e

  few_parameters : (i : Handler) → in_header p.declarations i ≡ [] → length i.parameters ≤ 8
  few_parameters i q =
      let u = parts (in_parameters p.declarations i.parameters) (when (nat_lt 16 (length i.clauses)) rule.TooManyClauses) q in
      let v = parts (when (nat_lt 8 (length i.parameters)) rule.TooManyParameters) (in_types p.declarations i.parameters) u.0 in
      at_most 8 (length i.parameters) rule.TooManyParameters v.0

  few_clauses : (i : Handler) → in_header p.declarations i ≡ [] → length i.clauses ≤ 16
  few_clauses i q =
      let u = parts (in_parameters p.declarations i.parameters) (when (nat_lt 16 (length i.clauses)) rule.TooManyClauses) q in
      at_most 16 (length i.clauses) rule.TooManyClauses u.1

  pub function_keeps : (f : Name) (g : Function) → function_of p.declarations f ≡ Some g → FunctionKeeps p.declarations g
  function_keeps f g e =
      let q = keeps f (definition.Function g) (is_function (definition_of p.declarations f) g e) in
      let t = parts (in_parameters p.declarations g.parameters) (in_body p.declarations (map parameter g.parameters) g.body) q in
      let u = parts (when (nat_lt 8 (length g.parameters)) rule.TooManyParameters) (in_types p.declarations g.parameters) t.0 in
      record { few = at_most 8 (length g.parameters) rule.TooManyParameters u.0; body = t.1 }

  pub handler_keeps : (h : Name) (i : Handler) → handler_of p.declarations h ≡ Some i → HandlerKeeps p.declarations h i
  handler_keeps h i e =
      let q = keeps h (definition.Handler i) (is_handler (definition_of p.declarations h) i e) in
      let t = parts (in_header p.declarations i) (in_bodies p.declarations h i) q in
      let v = parts (in_body p.declarations (of_return i) i.return_clause.body) (in_clauses p.declarations h i [] i.clauses) t.1 in
      record {
        few = few_parameters i t.0;
        few_clauses = few_clauses i t.0;
        returned = v.0;
        clauses = clause_keeps p.declarations h i [] i.clauses v.1;
      }

  -- an effect has few arguments
  pub effect_few : (op : Name) (n : ℕ) → effect_of p.declarations op ≡ Some n → n ≤ 8
  effect_few op n e =
      let m = is_effect (definition_of p.declarations op) n e in
      let few = at_most 8 m.0.value rule.EffectOfTooMany (keeps op (definition.Effect m.0) m.1) in
      subst (λ (k : ℕ). k ≤ 8) m.2 few
