-- The handlers of a script that breaks no rule are typed, and what their clauses bind has the types that they bind it with.
use Rattle.std.proofs.Common.{◌≡◌, ℕ, zero, suc, ◌+◌, Bool, true, false, not, nat_eq, List, [], ◌∷◌, ◌++◌, map, length, Option, Some, None, slice_get, if◌then◌else◌, sym, ap, ◌∙◌, subst}
use Rattle.std.specs.Str.{bytes_eq}
use Rattle.lists.proofs.Lists.{get-behind}
use Rattle.s_syntax.specs.declared.name.Name.{Name}
use Rattle.s_syntax.specs.declared.script.VariableType.TheVariants.{Int, Resumption}
use Rattle.s_syntax.specs.declared.script.Clause.{Clause}
use Rattle.s_syntax.specs.declared.script.Handler.{Handler}
use Rattle.s_syntax.specs.declared.script.Declaration.{Declaration}
use Rattle.s_syntax.specs.declared.script.Script.{Script}
use Rattle.s_check.specs.declared.rule.Rule.TheVariants as rule
use Rattle.s_check.specs.Definitions.{handler_of, effect_of}
use Rattle.s_check.specs.Refusal.{Good}
use Rattle.s_check.specs.Rules.{when, in_body, in_head, in_clauses}
use Rattle.s_check.specs.Scopes.{type_in, number as number_name, parameter, resumption, of_clause, of_return, is_among}
use Rattle.s_meaning.specs.Steps.{clause_of}
use Rattle.s_meaning.specs.Typing.{ScriptTyped}
use Rattle.s_meaning.proofs.BoundInTurn.{or_left}
use Rattle.s_meaning.proofs.Good.{parts, when_not, Handler_empty, handler_empty, good_typed}
use Rattle.s_meaning.proofs.Lists.{get_before}
use Rattle.s_meaning.proofs.Scopes.{same_refl, bool_of}
use Rattle.s_valid.proofs.BoundOnce.{neither, body_names, each_typed}
use Rattle.s_valid.proofs.TypedHandlers.{HandlerTyped}

-- ## Clauses, each of another effect

record OneClause (ds : List Declaration) (h : Name) (i : Handler) (before : List Name) (c : Clause) : Type 0 where
  first : is_among before c.effect ≡ false
  body : in_body ds (of_clause h i c) c.body ≡ []

head_first : (o : Option ℕ) (before : List Name) (c : Clause) → in_head o before c ≡ [] → is_among before c.effect ≡ false
head_first None before c e = absurd (cc)
head_first (Some n) before c e =
    when_not (is_among before c.effect) rule.ClauseForEffectTwice (parts (when (is_among before c.effect) rule.ClauseForEffectTwice) (when (not (nat_eq (length c.arguments) n)) rule.OtherNumberInClause) e).0

one_clause : (ds : List Declaration) (h : Name) (i : Handler) (before : List Name) (cs : List Clause) → in_clauses ds h i before cs ≡ [] → (n : ℕ) (c : Clause) → slice_get cs n ≡ Some c
    → OneClause ds h i before c
one_clause ds h i before [] q n c e = absurd (cc)
one_clause ds h i before (d ∷ cs) q zero c e =
    let t = parts (in_head (effect_of ds d.effect) before d ++ in_body ds (of_clause h i d) d.body) (in_clauses ds h i (d.effect ∷ before) cs) q in
    let u = parts (in_head (effect_of ds d.effect) before d) (in_body ds (of_clause h i d) d.body) t.0 in
    let same : d ≡ c = cc in let P : Clause → Type 0 = λ x. OneClause ds h i before x in
    subst P same (record { first = head_first (effect_of ds d.effect) before d u.0; body = u.1 })
one_clause ds h i before (d ∷ cs) q (suc n) c e =
    let t = parts (in_head (effect_of ds d.effect) before d ++ in_body ds (of_clause h i d) d.body) (in_clauses ds h i (d.effect ∷ before) cs) q in
    let r = one_clause ds h i (d.effect ∷ before) cs t.1 n c e in
    record { first = neither (bytes_eq d.effect c.effect) (is_among before c.effect) r.first; body = r.body }

-- a clause is the one that handles its effect
found : (ds : List Declaration) (h : Name) (i : Handler) (before : List Name) (cs : List Clause) → in_clauses ds h i before cs ≡ [] → (n : ℕ) (c : Clause) → slice_get cs n ≡ Some c
    → clause_of c.effect cs ≡ Some c
found ds h i before [] q n c e = absurd (cc)
found ds h i before (d ∷ cs) q zero c e =
    let same : d ≡ c = cc in
    ap (λ (b : Bool). if b then Some d else clause_of c.effect cs) (ap (λ (x : Clause). bytes_eq x.effect c.effect) same ∙ same_refl c.effect) ∙ ap (λ (x : Clause). Some x) same
found ds h i before (d ∷ cs) q (suc n) c e =
    let t = parts (in_head (effect_of ds d.effect) before d ++ in_body ds (of_clause h i d) d.body) (in_clauses ds h i (d.effect ∷ before) cs) q in
    let r = one_clause ds h i (d.effect ∷ before) cs t.1 n c e in
    let later = found ds h i (d.effect ∷ before) cs t.1 n c e in
    bool_of (bytes_eq d.effect c.effect) (λ b. (if b then Some d else clause_of c.effect cs) ≡ Some c)
    (λ same. let no : true ≡ false = sym (or_left (bytes_eq d.effect c.effect) (is_among before c.effect) same) ∙ r.first in absurd (cc)) (λ other. later)

-- ## Handlers

get_number : (xs : List Name) (m : ℕ) (x : Name) → slice_get xs m ≡ Some x → slice_get (map number_name xs) m ≡ Some (number_name x)
get_number [] m x e = absurd (cc)
get_number (y ∷ xs) zero x e = let same : y ≡ x = cc in ap (λ (z : Name). Some (number_name z)) same
get_number (y ∷ xs) (suc m) x e = get_number xs m x e

-- each handler of a script that breaks no rule
pub good_handler : (p : Script) → Good p → (h : Name) (i : Handler) → handler_of p.declarations h ≡ Some i → HandlerTyped p h i
good_handler p good h i is = record {
  returns = typed.returns h i is;
  value = value;
  clauses = λ n c e. typed.clauses h c.effect i c is (found p.declarations h i [] i.clauses rules.clauses n c e);
  resumptions = resumptions;
  arguments = arguments;
  of_returns = each_typed p.declarations (of_return i) i.return_clause.body rules.returned;
  of_clauses = λ n c e. each_typed p.declarations (of_clause h i c) c.body (of_body n c e);
}
  where
    typed : ScriptTyped p
    typed = good_typed p good

    rules : Handler_empty p good h i
    rules = handler_empty p good h i is

    value : type_in (of_return i) i.return_clause.value ≡ Some Int
    value =
        let ps = map parameter i.parameters in
        body_names p.declarations (of_return i) i.return_clause.body rules.returned (length ps + 0) (number_name i.return_clause.value) (get-behind ps (number_name i.return_clause.value ∷ []) 0)

    of_body : (n : ℕ) (c : Clause) → slice_get i.clauses n ≡ Some c → in_body p.declarations (of_clause h i c) c.body ≡ []
    of_body n c e = let one = one_clause p.declarations h i [] i.clauses rules.clauses n c e in one.body

    resumptions : (n : ℕ) (c : Clause) → slice_get i.clauses n ≡ Some c → type_in (of_clause h i c) c.resumption ≡ Some (Resumption h)
    resumptions n c e =
        let ps = map parameter i.parameters in let xs = map number_name c.arguments in let last = resumption h c.resumption ∷ [] in
        body_names p.declarations (of_clause h i c) c.body (of_body n c e) (length ps + (length xs + 0)) (resumption h c.resumption)
        (get-behind ps (xs ++ last) (length xs + 0) ∙ get-behind xs last 0)

    arguments : (n : ℕ) (c : Clause) → slice_get i.clauses n ≡ Some c → (m : ℕ) (x : Name) → slice_get c.arguments m ≡ Some x → type_in (of_clause h i c) x ≡ Some Int
    arguments n c e m x f =
        let ps = map parameter i.parameters in let xs = map number_name c.arguments in let last = resumption h c.resumption ∷ [] in
        body_names p.declarations (of_clause h i c) c.body (of_body n c e) (length ps + m) (number_name x)
        (get-behind ps (xs ++ last) m ∙ get_before xs last m (number_name x) (get_number c.arguments m x f))
