-- A script that breaks no rule is typed.
use Rattle.std.proofs.Common.{◌≡◌, inl, inr, ℕ, zero, suc, nat_lt, nat_eq, Bool, true, false, not, ◌&&◌, ◌||◌, List, [], ◌∷◌, ◌++◌, length, map, codes, Option, Some, None, is_some, if◌then◌else◌, refl, sym, ap, ◌∙◌, subst, arith, append-nil}
use Rattle.std.proofs.lemmas.Bool.Decides.{Decides-eqb}
use Rattle.std.specs.Str.{bytes_eq}
use Rattle.s_syntax.specs.declared.name.Name.{Name}
use Rattle.s_syntax.specs.declared.script.VariableType.{VariableType}
use Rattle.s_syntax.specs.declared.script.VariableType.TheVariants.{Int, Resumption, Coroutine}
use Rattle.s_syntax.specs.declared.script.Parameter.{Parameter}
use Rattle.s_syntax.specs.declared.script.Function.{Function}
use Rattle.s_syntax.specs.declared.script.Clause.{Clause}
use Rattle.s_syntax.specs.declared.script.Handler.{Handler}
use Rattle.s_syntax.specs.declared.script.Slots.{Slots}
use Rattle.s_syntax.specs.declared.script.Definition.{Definition}
use Rattle.s_syntax.specs.declared.script.Definition.TheVariants as definition
use Rattle.s_syntax.specs.declared.script.Declaration.{Declaration}
use Rattle.s_syntax.specs.declared.script.Script.{Script}
use Rattle.s_syntax.specs.ExprTree.{ExprTree, Literal, Read, Unary, Run, Call, Do, Handle, Resume, Group, Exprs, NoExprs, MoreExprs, Operands, NoOperands, MoreOperands}
use Rattle.s_syntax.specs.declared.statement.Use.TheVariants as use_for
use Rattle.s_syntax.specs.BlockTree.{Evaluate, If, While, Fail, Spawn, BlockTree, Done, ◌⨟◌}
use Rattle.s_check.specs.declared.rule.Rule.{Rule}
use Rattle.s_check.specs.declared.rule.Rule.TheVariants as rule
use Rattle.s_check.specs.Definitions.{definition_of, as_function, as_handler, as_slots, function_of, handler_of, effect_of, slots_of}
use Rattle.s_check.specs.Scopes.{Bound, Scope, type_in, bind, bind_all, number as number_name, resumption as resumption_name, coroutine as coroutine_name, parameter, of_clause, of_return, lets_in, is_among, some_twice}
use Rattle.s_check.specs.Rules.{when, is_reference, is_coroutine, is_resumption_of, is_number, takes_number, takes_both, for_grouped, for_spawned, for_switched, suits, all_suit, count, against, for_function, for_effect, for_handler, for_resumed, for_handler_of_type, for_slots, handler_of_slots, in_stored, in_name, in_expr, in_exprs, in_operands, in_target, in_block, in_body, in_type, in_types, in_parameters, in_head, in_clauses, in_header, in_bodies, in_definition, in_declarations, is_main, in_main, broken_rules}
use Rattle.s_check.specs.Refusal.{first, Has, Good}
use Rattle.s_meaning.specs.Steps.{clause_of}
use Rattle.s_meaning.specs.Typing.{kinds, numbers, ExprTyped, OperandsTyped, ArgsTyped, literal, read, unary, run, call, does, handle, resume, group, no_more, next, no_args, number, resumption, coroutine, Fits, lets, assigns, prints, returns, drops, stores_in, takes_from, switches_to, evaluates, ifs, whiles, fails, spawns, BlockTyped, done, statement, ClauseTyped, ScriptTyped}
use Rattle.s_meaning.proofs.Scopes.{same_is, same_refl, bool_of, agree_more, same_block}
use Rattle.s_meaning.proofs.BoundInTurn.{starts_agree, bound_agrees, none_behind, type_behind, or_left, or_right, among_left, among_right, twice_of, type_among, Apart, name, no_true, apart_behind, apart_left, apart_right}

-- ## No rule

pub parts : (xs ys : List Rule) → xs ++ ys ≡ [] → (xs ≡ []) × (ys ≡ [])
parts [] ys e = (refl, e)
parts (x ∷ xs) ys e = absurd (cc)

pub when_not : (b : Bool) (r : Rule) → when b r ≡ [] → b ≡ false
when_not true r e = absurd (cc)
when_not false r e = refl

both : (a b : Bool) → (a && b) ≡ true → (a ≡ true) × (b ≡ true)
both true b e = (refl, e)
both false b e = absurd (cc)

not_false : (b : Bool) → not b ≡ false → b ≡ true
not_false true e = refl
not_false false e = absurd (cc)

same_number : (a b : ℕ) → nat_eq a b ≡ true → a ≡ b
same_number a b e = (Decides-eqb a b).0 e

-- ## Names

read_number : (whole : Bool) (k : Option VariableType) → in_name whole k ≡ [] → not (is_reference k) ≡ true → k ≡ Some Int
read_number whole None e s = absurd (cc)
read_number whole (Some Int) e s = refl
read_number whole (Some (Resumption h)) e s = absurd (cc)
read_number whole (Some Coroutine) e s = absurd (cc)

read_alone : (k : Option VariableType) → in_name false k ≡ [] → k ≡ Some Int
read_alone None e = absurd (cc)
read_alone (Some Int) e = refl
read_alone (Some (Resumption h)) e = absurd (cc)
read_alone (Some Coroutine) e = absurd (cc)

read_coroutine : (k : Option VariableType) → is_coroutine k ≡ true → k ≡ Some Coroutine
read_coroutine None e = absurd (cc)
read_coroutine (Some Int) e = absurd (cc)
read_coroutine (Some (Resumption h)) e = absurd (cc)
read_coroutine (Some Coroutine) e = refl

-- the first of two sides holds, since the handler is there
or_declared : (b : Bool) {o : Option Handler} {i : Handler} → o ≡ Some i → (b || not (is_some o)) ≡ true → b ≡ true
or_declared true there e = refl
or_declared false there e = rw there at e

assigned : (k : Option VariableType) → in_target k ≡ [] → k ≡ Some Int
assigned None e = absurd (cc)
assigned (Some Int) e = refl
assigned (Some (Resumption h)) e = absurd (cc)
assigned (Some Coroutine) e = absurd (cc)

-- the target of a switch
target_type : (k : Option VariableType) → for_switched k ≡ [] → k ≡ Some Coroutine
target_type None e = absurd (cc)
target_type (Some Int) e = absurd (cc)
target_type (Some (Resumption h)) e = absurd (cc)
target_type (Some Coroutine) e = refl

-- ## Functions of groups and of spawns

number_type : (t : VariableType) → is_number t ≡ true → t ≡ Int
number_type Int e = refl
number_type (Resumption h) e = absurd (cc)
number_type Coroutine e = absurd (cc)

coroutine_type : (t : VariableType) → is_coroutine (Some t) ≡ true → t ≡ Coroutine
coroutine_type Int e = absurd (cc)
coroutine_type (Resumption h) e = absurd (cc)
coroutine_type Coroutine e = refl

number_kinds : (ps : List Parameter) → takes_number ps ≡ true → kinds ps ≡ Int ∷ []
number_kinds [] e = absurd (cc)
number_kinds (a ∷ []) e = ap (λ (t : VariableType). t ∷ []) (number_type a.ty e)
number_kinds (a ∷ b ∷ ps) e = absurd (cc)

both_kinds : (ps : List Parameter) → takes_both ps ≡ true → kinds ps ≡ Int ∷ Coroutine ∷ []
both_kinds [] e = absurd (cc)
both_kinds (a ∷ []) e = absurd (cc)
both_kinds (a ∷ b ∷ []) e =
    let r = both (is_number a.ty) (is_coroutine (Some b.ty)) e in
    ap (λ (t : VariableType). t ∷ b.ty ∷ []) (number_type a.ty r.0) ∙ ap (λ (t : VariableType). Int ∷ t ∷ []) (coroutine_type b.ty r.1)
both_kinds (a ∷ b ∷ c ∷ ps) e = absurd (cc)

grouped_function : (o : Option Function) → for_grouped o ≡ [] → (g : Function) × (o ≡ Some g) × (kinds g.parameters ≡ Int ∷ [])
grouped_function None e = absurd (cc)
grouped_function (Some g) e = (g, refl, number_kinds g.parameters (not_false (takes_number g.parameters) (when_not (not (takes_number g.parameters)) rule.OtherParameters e)))

spawned_function : (o : Option Function) → for_spawned o ≡ [] → (g : Function) × (o ≡ Some g) × (kinds g.parameters ≡ Int ∷ Coroutine ∷ [])
spawned_function None e = absurd (cc)
spawned_function (Some g) e = (g, refl, both_kinds g.parameters (not_false (takes_both g.parameters) (when_not (not (takes_both g.parameters)) rule.OtherParameters e)))

-- ## Expressions

if_equal : (b : Bool) (xs : List Rule) (r : Rule) → (if b then xs else (r ∷ [])) ≡ [] → (b ≡ true) × (xs ≡ [])
if_equal true xs r e = (refl, e)
if_equal false xs r e = absurd (cc)

-- each res type that is bound is of a handler
Handlers : List Declaration → Scope → Type 0
Handlers ds Γ = (x h : Name) → type_in Γ x ≡ Some (Resumption h) → (i : Handler) × (handler_of ds h ≡ Some i)

-- slots of this name
a_slots : (o : Option Slots) → for_slots o ≡ [] → (d : Slots) × (o ≡ Some d)
a_slots None e = absurd (cc)
a_slots (Some d) e = (d, refl)

-- each slots are of a handler
SlotsHandled : List Declaration → Type 0
SlotsHandled ds = (s : Name) (d : Slots) → slots_of ds s ≡ Some d → (i : Handler) × (handler_of ds d.handler ≡ Some i)

module _ (p : Script) (Γ : Scope) (handlers : (x h : Name) → type_in Γ x ≡ Some (Resumption h) → (i : Handler) × (handler_of p.declarations h ≡ Some i)) where
  -- what is read elsewhere than as a whole argument suits a number
  plain_suits : (e : ExprTree) → in_expr p.declarations Γ false e ≡ [] → suits p.declarations Γ Int e ≡ true
  plain_suits (Literal n) q = refl
  plain_suits (Read x) q = ap (λ (k : Option VariableType). not (is_reference k)) (read_alone (type_in Γ x) q)
  plain_suits (Unary o e) q = refl
  plain_suits (Run e es) q = refl
  plain_suits (Call f es) q = refl
  plain_suits (Do op es) q = refl
  plain_suits (Handle f es h bs) q = refl
  plain_suits (Resume k e bs) q = refl
  plain_suits (Group f e) q = refl

  against_suits : (ps : List Parameter) (es : Exprs) → against p.declarations Γ ps es ≡ [] → (count es ≡ length ps) × (all_suit p.declarations Γ ps es ≡ true)
  against_suits ps es e =
      let n = if_equal (nat_eq (count es) (length ps)) (when (not (all_suit p.declarations Γ ps es)) rule.ArgumentOfOtherType) rule.OtherNumberOfArguments e in
      (same_number (count es) (length ps) n.0, not_false (all_suit p.declarations Γ ps es) (when_not (not (all_suit p.declarations Γ ps es)) rule.ArgumentOfOtherType n.1))

  a_function : (o : Option Function) (es : Exprs) → for_function p.declarations Γ o es ≡ [] → (g : Function) × (o ≡ Some g) × (against p.declarations Γ g.parameters es ≡ [])
  a_function None es e = absurd (cc)
  a_function (Some g) es e = (g, refl, e)

  an_effect : (o : Option ℕ) (es : Exprs) → for_effect o es ≡ [] → (n : ℕ) × (o ≡ Some n) × (count es ≡ n)
  an_effect None es e = absurd (cc)
  an_effect (Some n) es e = (n, refl, same_number (count es) n (not_false (nat_eq (count es) n) (when_not (not (nat_eq (count es) n)) rule.OtherNumberOfArguments e)))

  a_handler : (o : Option Handler) (es : Exprs) → for_handler p.declarations Γ o es ≡ [] → (i : Handler) × (o ≡ Some i) × (against p.declarations Γ i.parameters es ≡ [])
  a_handler None es e = absurd (cc)
  a_handler (Some i) es e = (i, refl, e)

  resumed : (k : Option VariableType) (es : Exprs) → for_resumed p.declarations Γ k es ≡ [] → (h : Name) × (k ≡ Some (Resumption h)) × (for_handler_of_type p.declarations Γ (handler_of p.declarations h) es ≡ [])
  resumed None es e = absurd (cc)
  resumed (Some Int) es e = absurd (cc)
  resumed (Some (Resumption h)) es e = (h, refl, e)
  resumed (Some Coroutine) es e = absurd (cc)

  read_resumption : (x h : Name) (k : Option VariableType) → type_in Γ x ≡ k → is_resumption_of p.declarations h k ≡ true → k ≡ Some (Resumption h)
  read_resumption x h None q e = absurd (cc)
  read_resumption x h (Some Int) q e = absurd (cc)
  read_resumption x h (Some (Resumption g)) q e = ap (λ (n : Name). Some (Resumption n)) (sym (same_is h g (or_declared (bytes_eq g h) (handlers x g q).1 e)))
  read_resumption x h (Some Coroutine) q e = absurd (cc)

  -- a name that is stored into slots
  stored_type : (d : Slots) (x : Name) (k : Option VariableType) → type_in Γ x ≡ k → in_stored p.declarations (Some d) k ≡ [] → k ≡ Some (Resumption d.handler)
  stored_type d x None q e = absurd (cc)
  stored_type d x (Some t) q e =
      let u = parts (when (is_coroutine (Some t)) rule.ResumptionElsewhere) (when (not (is_resumption_of p.declarations d.handler (Some t))) rule.StoredOfOtherType) e in
      let suits = not_false (is_resumption_of p.declarations d.handler (Some t)) (when_not (not (is_resumption_of p.declarations d.handler (Some t))) rule.StoredOfOtherType u.1) in
      read_resumption x d.handler (Some t) q suits

  arg_of : (k : VariableType) (e : ExprTree) (ks : List VariableType) (es : Exprs) → (suits p.declarations Γ Int e ≡ true → ExprTyped p Γ e) → suits p.declarations Γ k e ≡ true → ArgsTyped p Γ ks es
      → ArgsTyped p Γ (k ∷ ks) (MoreExprs e es)
  arg_of Int e ks es t s ts = number (t s) ts
  arg_of (Resumption h) (Read x) ks es t s ts = resumption (read_resumption x h (type_in Γ x) refl s) ts
  arg_of (Resumption h) e ks es t s ts = absurd (cc)
  arg_of Coroutine (Read x) ks es t s ts = coroutine (read_coroutine (type_in Γ x) s) ts
  arg_of Coroutine e ks es t s ts = absurd (cc)

  mutual
    expr_of : (e : ExprTree) (whole : Bool) → in_expr p.declarations Γ whole e ≡ [] → suits p.declarations Γ Int e ≡ true → ExprTyped p Γ e
    expr_of (Literal n) whole q s = literal
    expr_of (Read x) whole q s = read (read_number whole (type_in Γ x) q s)
    expr_of (Unary o e) whole q s = unary (expr_of e false q (plain_suits e q))
    expr_of (Run e es) whole q s =
        let t = parts (in_expr p.declarations Γ false e) (in_operands p.declarations Γ es) q in
        run (expr_of e false t.0 (plain_suits e t.0)) (operands_of es t.1)
    expr_of (Call f es) whole q s =
        let t = parts (for_function p.declarations Γ (function_of p.declarations f) es) (in_exprs p.declarations Γ true es) q in
        let g = a_function (function_of p.declarations f) es t.0 in
        let a = against_suits g.0.parameters es g.2 in
        call g.1 (args_of g.0.parameters es t.1 a.0 a.1)
    expr_of (Do op es) whole q s =
        let t = parts (for_effect (effect_of p.declarations op) es) (in_exprs p.declarations Γ false es) q in
        let n = an_effect (effect_of p.declarations op) es t.0 in
        does n.1 (numbers_of n.0 es t.1 n.2)
    expr_of (Handle f es h bs) whole q s =
        let q1 = parts (for_function p.declarations Γ (function_of p.declarations f) es ++ in_exprs p.declarations Γ true es) (for_handler p.declarations Γ (handler_of p.declarations h) bs ++ in_exprs p.declarations Γ true bs) q in
        let t = parts (for_function p.declarations Γ (function_of p.declarations f) es) (in_exprs p.declarations Γ true es) q1.0 in
        let u = parts (for_handler p.declarations Γ (handler_of p.declarations h) bs) (in_exprs p.declarations Γ true bs) q1.1 in
        let g = a_function (function_of p.declarations f) es t.0 in
        let i = a_handler (handler_of p.declarations h) bs u.0 in
        let a = against_suits g.0.parameters es g.2 in
        let b = against_suits i.0.parameters bs i.2 in
        handle g.1 i.1 (args_of g.0.parameters es t.1 a.0 a.1) (args_of i.0.parameters bs u.1 b.0 b.1)
    expr_of (Resume k e bs) whole q s =
        let q1 = parts (in_expr p.declarations Γ false e) (for_resumed p.declarations Γ (type_in Γ k) bs ++ in_exprs p.declarations Γ true bs) q in
        let q2 = parts (for_resumed p.declarations Γ (type_in Γ k) bs) (in_exprs p.declarations Γ true bs) q1.1 in
        let h = resumed (type_in Γ k) bs q2.0 in
        let i = handlers k h.0 h.1 in
        let b = against_suits i.0.parameters bs (rw i.1 at h.2) in
        resume h.1 i.1 (expr_of e false q1.0 (plain_suits e q1.0)) (args_of i.0.parameters bs q2.1 b.0 b.1)
    expr_of (Group f e) whole q s =
        let t = parts (for_grouped (function_of p.declarations f)) (in_expr p.declarations Γ false e) q in
        let g = grouped_function (function_of p.declarations f) t.0 in
        group g.1 g.2 (expr_of e false t.1 (plain_suits e t.1))

    operands_of : (es : Operands) → in_operands p.declarations Γ es ≡ [] → OperandsTyped p Γ es
    operands_of NoOperands q = no_more
    operands_of (MoreOperands o e es) q =
        let t = parts (in_expr p.declarations Γ false e) (in_operands p.declarations Γ es) q in
        next (expr_of e false t.0 (plain_suits e t.0)) (operands_of es t.1)

    args_of : (ps : List Parameter) (es : Exprs) → in_exprs p.declarations Γ true es ≡ [] → count es ≡ length ps → all_suit p.declarations Γ ps es ≡ true → ArgsTyped p Γ (kinds ps) es
    args_of [] NoExprs q n s = no_args
    args_of [] (MoreExprs e es) q n s = absurd (omega arith)
    args_of (x ∷ ps) NoExprs q n s = absurd (omega arith)
    args_of (x ∷ ps) (MoreExprs e es) q n s =
        let t = parts (in_expr p.declarations Γ true e) (in_exprs p.declarations Γ true es) q in
        let u = both (suits p.declarations Γ x.ty e) (all_suit p.declarations Γ ps es) s in
        arg_of x.ty e (kinds ps) es (λ i. expr_of e true t.0 i) u.0 (args_of ps es t.1 (omega arith) u.1)

    numbers_of : (n : ℕ) (es : Exprs) → in_exprs p.declarations Γ false es ≡ [] → count es ≡ n → ArgsTyped p Γ (numbers n) es
    numbers_of zero NoExprs q n = no_args
    numbers_of zero (MoreExprs e es) q n = absurd (omega arith)
    numbers_of (suc m) NoExprs q n = absurd (omega arith)
    numbers_of (suc m) (MoreExprs e es) q n =
        let t = parts (in_expr p.declarations Γ false e) (in_exprs p.declarations Γ false es) q in
        number (expr_of e false t.0 (plain_suits e t.0)) (numbers_of m es t.1 (omega arith))

-- ## Statements

bound : (ds : List Declaration) (Γ : Scope) (x : Name) → Handlers ds Γ → Handlers ds (bind (number_name x) Γ)
unfolding Handlers
bound ds Γ x hs y h e = elim (type_behind (number_name x) y Γ (Resumption h) e) [
  | inl old ↦ hs y h old
  | inr new ↦ absurd (cc new)
]

bound_resumption : (ds : List Declaration) (Γ : Scope) (g x : Name) (i : Handler) → handler_of ds g ≡ Some i → Handlers ds Γ → Handlers ds (bind (resumption_name g x) Γ)
unfolding Handlers
bound_resumption ds Γ g x i there hs y h e = elim (type_behind (resumption_name g x) y Γ (Resumption h) e) [
  | inl old ↦ hs y h old
  | inr new ↦ (i, ap (handler_of ds) (let same : h ≡ g = cc new in same) ∙ there)
]

bound_coroutine : (ds : List Declaration) (Γ : Scope) (t : Name) → Handlers ds Γ → Handlers ds (bind (coroutine_name t) Γ)
unfolding Handlers
bound_coroutine ds Γ t hs y h e = elim (type_behind (coroutine_name t) y Γ (Resumption h) e) [
  | inl old ↦ hs y h old
  | inr new ↦ absurd (cc new)
]

-- none of the names that are bound later is bound
Later : List Name → Scope → Type 0
Later xs Γ = (x : Name) → is_among xs x ≡ true → type_in Γ x ≡ None

later_behind : (b : Bound) (xs : List Name) (Γ : Scope) → is_among xs b.name ≡ false → ((y : Name) → is_among (b.name ∷ xs) y ≡ true → type_in Γ y ≡ None) → Later xs (bind b Γ)
unfolding Later
later_behind b xs Γ once l y i = none_behind b y Γ (no_true (bytes_eq b.name y) (λ q. let e : is_among xs b.name ≡ true = ap (is_among xs) (sym (same_is y b.name q)) ∙ i in cc (e, once)))
    (l y (or_right (bytes_eq b.name y) (is_among xs y) i))

expr_typed : (p : Script) (Γ : Scope) → Handlers p.declarations Γ → (e : ExprTree) → in_expr p.declarations Γ false e ≡ [] → ExprTyped p Γ e
unfolding Handlers
expr_typed p Γ hs e q = expr_of p Γ hs e false q (plain_suits p Γ hs e q)

typed_store : (p : Script) (Γ : Scope) → Handlers p.declarations Γ → (d : Slots) (k : Name) → in_stored p.declarations (Some d) (type_in Γ k) ≡ [] → type_in Γ k ≡ Some (Resumption d.handler)
unfolding Handlers
typed_store p Γ hs d k q = stored_type p Γ hs d k (type_in Γ k) refl q

fits_none : (x : Name) (t : VariableType) (Γ : Scope) → type_in Γ x ≡ None → Fits x t Γ
fits_none x t Γ none = record { fits = λ k e. absurd (cc (e, none)) }

module _ (p : Script) (slots : (s : Name) (d : Slots) → slots_of p.declarations s ≡ Some d → (i : Handler) × (handler_of p.declarations d.handler ≡ Some i)) where
  block_typed : (Γ : Scope) (b : BlockTree) → Handlers p.declarations Γ → Apart (lets_in b) → Later (lets_in b) Γ → in_block p.declarations Γ b ≡ [] → BlockTyped p Γ b
  unfolding Later
  block_typed Γ Done hs a l q = done
  block_typed Γ (Evaluate (use_for.Let x) e ⨟ b) hs (name once a) l q =
      let t = parts (in_expr p.declarations Γ false e) (in_block p.declarations (bind (number_name x) Γ) b) q in
      let none = l x (or_left (bytes_eq x x) (is_among (lets_in b) x) (same_refl x)) in
      statement (evaluates (expr_typed p Γ hs e t.0) (lets (fits_none x Int Γ none)))
      (same_block (bound_agrees (number_name x) Γ (fits_none x Int Γ none))
      (block_typed (bind (number_name x) Γ) b (bound p.declarations Γ x hs) a (later_behind (number_name x) (lets_in b) Γ once l) t.1))
  block_typed Γ (Evaluate (use_for.Assign x) e ⨟ b) hs a l q =
      let t = parts (in_target (type_in Γ x) ++ in_expr p.declarations Γ false e) (in_block p.declarations Γ b) q in
      let u = parts (in_target (type_in Γ x)) (in_expr p.declarations Γ false e) t.0 in
      statement (evaluates (expr_typed p Γ hs e u.1) (assigns (assigned (type_in Γ x) u.0))) (block_typed Γ b hs a l t.1)
  block_typed Γ (If e b c ⨟ d) hs a l q =
      let t = parts (in_expr p.declarations Γ false e ++ (in_block p.declarations Γ b ++ in_block p.declarations Γ c)) (in_block p.declarations Γ d) q in
      let u = parts (in_expr p.declarations Γ false e) (in_block p.declarations Γ b ++ in_block p.declarations Γ c) t.0 in
      let v = parts (in_block p.declarations Γ b) (in_block p.declarations Γ c) u.1 in
      let both = apart_left (lets_in b ++ lets_in c) (lets_in d) a in
      statement (ifs (expr_typed p Γ hs e u.0)
      (block_typed Γ b hs (apart_left (lets_in b) (lets_in c) both) (λ y i. l y (among_left y (lets_in b ++ lets_in c) (lets_in d) (among_left y (lets_in b) (lets_in c) i))) v.0)
      (block_typed Γ c hs (apart_right (lets_in b) (lets_in c) both) (λ y i. l y (among_left y (lets_in b ++ lets_in c) (lets_in d) (among_right y (lets_in b) (lets_in c) i))) v.1))
      (block_typed Γ d hs (apart_right (lets_in b ++ lets_in c) (lets_in d) a) (λ y i. l y (among_right y (lets_in b ++ lets_in c) (lets_in d) i)) t.1)
  block_typed Γ (While e b ⨟ d) hs a l q =
      let t = parts (in_expr p.declarations Γ false e ++ in_block p.declarations Γ b) (in_block p.declarations Γ d) q in
      let v = parts (in_expr p.declarations Γ false e) (in_block p.declarations Γ b) t.0 in
      statement (whiles (expr_typed p Γ hs e v.0) (block_typed Γ b hs (apart_left (lets_in b) (lets_in d) a) (λ y i. l y (among_left y (lets_in b) (lets_in d) i)) v.1))
      (block_typed Γ d hs (apart_right (lets_in b) (lets_in d) a) (λ y i. l y (among_right y (lets_in b) (lets_in d) i)) t.1)
  block_typed Γ (Evaluate use_for.Print e ⨟ b) hs a l q = let t = parts (in_expr p.declarations Γ false e) (in_block p.declarations Γ b) q in statement (evaluates (expr_typed p Γ hs e t.0) prints) (block_typed Γ b hs a l t.1)
  block_typed Γ (Evaluate use_for.Return e ⨟ b) hs a l q = let t = parts (in_expr p.declarations Γ false e) (in_block p.declarations Γ b) q in statement (evaluates (expr_typed p Γ hs e t.0) returns) (block_typed Γ b hs a l t.1)
  block_typed Γ (Evaluate use_for.Drop e ⨟ b) hs a l q = let t = parts (in_expr p.declarations Γ false e) (in_block p.declarations Γ b) q in statement (evaluates (expr_typed p Γ hs e t.0) drops) (block_typed Γ b hs a l t.1)
  block_typed Γ (Fail ⨟ b) hs a l q = statement fails (block_typed Γ b hs a l q)
  block_typed Γ (Evaluate (use_for.Store s k) e ⨟ b) hs a l q =
      let o = slots_of p.declarations s in
      let t = parts ((for_slots o ++ in_stored p.declarations o (type_in Γ k)) ++ in_expr p.declarations Γ false e) (in_block p.declarations Γ b) q in
      let u = parts (for_slots o ++ in_stored p.declarations o (type_in Γ k)) (in_expr p.declarations Γ false e) t.0 in
      let v = parts (for_slots o) (in_stored p.declarations o (type_in Γ k)) u.0 in
      let d = a_slots o v.0 in
      statement (evaluates (expr_typed p Γ hs e u.1) (stores_in d.1 (typed_store p Γ hs d.0 k (subst (λ (o : Option Slots). in_stored p.declarations o (type_in Γ k) ≡ []) d.1 v.1)))) (block_typed Γ b hs a l t.1)
  block_typed Γ (Evaluate (use_for.Take k s) e ⨟ b) hs (name once a) l q =
      let o = slots_of p.declarations s in
      let t = parts (for_slots o ++ in_expr p.declarations Γ false e) (in_block p.declarations (bind (resumption_name (handler_of_slots s o) k) Γ) b) q in
      let u = parts (for_slots o) (in_expr p.declarations Γ false e) t.0 in
      let d = a_slots o u.0 in
      let i = slots s d.0 d.1 in
      let h = d.0.handler in
      let none = l k (or_left (bytes_eq k k) (is_among (lets_in b) k) (same_refl k)) in
      statement (evaluates (expr_typed p Γ hs e u.1) (takes_from d.1 (fits_none k (Resumption h) Γ none)))
      (same_block (bound_agrees (resumption_name h k) Γ (fits_none k (Resumption h) Γ none))
      (block_typed (bind (resumption_name h k) Γ) b (bound_resumption p.declarations Γ h k i.0 i.1 hs) a (later_behind (resumption_name h k) (lets_in b) Γ once l)
      (subst (λ (o : Option Slots). in_block p.declarations (bind (resumption_name (handler_of_slots s o) k) Γ) b ≡ []) d.1 t.1)))
  block_typed Γ (Evaluate (use_for.Switch x u t) e ⨟ b) hs (name once (name other a)) l q =
      let Δ = bind (number_name x) Γ in
      let r = parts (for_switched (type_in Γ t) ++ in_expr p.declarations Γ false e) (in_block p.declarations (bind (coroutine_name u) Δ) b) q in
      let v = parts (for_switched (type_in Γ t)) (in_expr p.declarations Γ false e) r.0 in
      let fits = fits_none x Int Γ (l x (or_left (bytes_eq x x) (is_among (u ∷ lets_in b) x) (same_refl x))) in
      let agree = bound_agrees (number_name x) Γ fits in
      let later = later_behind (number_name x) (u ∷ lets_in b) Γ once l in
      let none = later u (or_left (bytes_eq u u) (is_among (lets_in b) u) (same_refl u)) in
      statement (evaluates (expr_typed p Γ hs e v.1) (switches_to (target_type (type_in Γ t) v.0) fits (fits_none u Coroutine (number_name x ∷ Γ) (sym (agree.type_of u) ∙ none))))
      (same_block (agree_more (coroutine_name u) agree) (same_block (bound_agrees (coroutine_name u) Δ (fits_none u Coroutine Δ none))
      (block_typed (bind (coroutine_name u) Δ) b (bound_coroutine p.declarations Δ u (bound p.declarations Γ x hs)) a (later_behind (coroutine_name u) (lets_in b) Δ other later) r.1)))
  block_typed Γ (Spawn t f ⨟ b) hs (name once a) l q =
      let r = parts (for_spawned (function_of p.declarations f)) (in_block p.declarations (bind (coroutine_name t) Γ) b) q in
      let g = spawned_function (function_of p.declarations f) r.0 in
      let fits = fits_none t Coroutine Γ (l t (or_left (bytes_eq t t) (is_among (lets_in b) t) (same_refl t))) in
      statement (spawns g.1 g.2 fits)
      (same_block (bound_agrees (coroutine_name t) Γ fits)
      (block_typed (bind (coroutine_name t) Γ) b (bound_coroutine p.declarations Γ t hs) a (later_behind (coroutine_name t) (lets_in b) Γ once l) r.1))

-- ## Bodies

abbrev names : Scope → List Name
names bs = map (λ (c : Bound). c.name) bs

not_bound : (bs : Scope) (x : Name) (ms : List Name) → some_twice [] (names bs ++ ms) ≡ false → is_among ms x ≡ true → (o : Option VariableType) → type_in bs x ≡ o → o ≡ None
not_bound bs x ms once i None e = refl
not_bound bs x ms once i (Some t) e = absurd (let r = twice_of x [] (names bs) ms (type_among x t bs e) i in cc (r, once))

body_typed : (p : Script) → SlotsHandled p.declarations → (bs : Scope) (b : BlockTree) → Handlers p.declarations bs → in_body p.declarations bs b ≡ [] → BlockTyped p bs b
unfolding Later Handlers SlotsHandled
body_typed p slots bs b hs q =
    let t = parts (when (some_twice [] (names bs ++ lets_in b)) rule.NameBoundTwice) (in_block p.declarations (bind_all bs []) b) q in
    let once : some_twice [] (names bs ++ lets_in b) ≡ false = when_not (some_twice [] (names bs ++ lets_in b)) rule.NameBoundTwice t.0 in
    let agree = starts_agree bs in
    same_block agree (block_typed p slots (bind_all bs []) b (λ x h e. hs x h (sym (agree.type_of x) ∙ e)) (apart_behind [] (names bs) (lets_in b) once)
    (λ x i. agree.type_of x ∙ not_bound bs x (lets_in b) once i (type_in bs x) refl) t.1)

data Handled (ds : List Declaration) : Scope → Type 0 where
  no_names : Handled ds []
  int : {x : Name} {Γ : Scope} → Handled ds Γ → Handled ds (record { name = x; ty = Int } ∷ Γ)
  coro : {x : Name} {Γ : Scope} → Handled ds Γ → Handled ds (record { name = x; ty = Coroutine } ∷ Γ)
  res : {x h : Name} {Γ : Scope} {i : Handler} → handler_of ds h ≡ Some i → Handled ds Γ → Handled ds (record { name = x; ty = Resumption h } ∷ Γ)

handled_number : (ds : List Declaration) (Γ : Scope) (x y h : Name) → ((z g : Name) → type_in Γ z ≡ Some (Resumption g) → (i : Handler) × (handler_of ds g ≡ Some i))
    → type_in (record { name = x; ty = Int } ∷ Γ) y ≡ Some (Resumption h) → (i : Handler) × (handler_of ds h ≡ Some i)
handled_number ds Γ x y h hs = bool_of (bytes_eq x y) (λ b. (if b then Some Int else type_in Γ y) ≡ Some (Resumption h) → (i : Handler) × (handler_of ds h ≡ Some i)) (λ q e. absurd (cc)) (λ q e. hs y h e)

handled_coroutine : (ds : List Declaration) (Γ : Scope) (x y h : Name) → ((z g : Name) → type_in Γ z ≡ Some (Resumption g) → (i : Handler) × (handler_of ds g ≡ Some i))
    → type_in (record { name = x; ty = Coroutine } ∷ Γ) y ≡ Some (Resumption h) → (i : Handler) × (handler_of ds h ≡ Some i)
handled_coroutine ds Γ x y h hs = bool_of (bytes_eq x y) (λ b. (if b then Some Coroutine else type_in Γ y) ≡ Some (Resumption h) → (i : Handler) × (handler_of ds h ≡ Some i)) (λ q e. absurd (cc)) (λ q e. hs y h e)

handled_res : (ds : List Declaration) (Γ : Scope) (x y h g : Name) (i : Handler) → handler_of ds g ≡ Some i → ((z f : Name) → type_in Γ z ≡ Some (Resumption f) → (i : Handler) × (handler_of ds f ≡ Some i))
    → type_in (record { name = x; ty = Resumption g } ∷ Γ) y ≡ Some (Resumption h) → (i : Handler) × (handler_of ds h ≡ Some i)
handled_res ds Γ x y h g i k hs = bool_of (bytes_eq x y) (λ b. (if b then Some (Resumption g) else type_in Γ y) ≡ Some (Resumption h) → (i : Handler) × (handler_of ds h ≡ Some i))
    (λ q e. (i, ap (handler_of ds) (cc e) ∙ k)) (λ q e. hs y h e)

handlers_of : {ds : List Declaration} {Γ : Scope} → Handled ds Γ → Handlers ds Γ
unfolding Handlers
handlers_of no_names y h e = absurd (cc)
handlers_of {ds} (int {x = x} {Γ = Γ} t) y h e = handled_number ds Γ x y h (handlers_of t) e
handlers_of {ds} (coro {x = x} {Γ = Γ} t) y h e = handled_coroutine ds Γ x y h (handlers_of t) e
handlers_of {ds} (res {x = x} {h = g} {Γ = Γ} {i = i} k t) y h e = handled_res ds Γ x y h g i k (handlers_of t) e

a_type : (ds : List Declaration) (h : Name) (o : Option Handler) → when (not (is_some o)) rule.NoHandlerOfType ≡ [] → (i : Handler) × (o ≡ Some i)
a_type ds h None e = absurd (cc)
a_type ds h (Some i) e = (i, refl)

handled_type : (ds : List Declaration) (x : Name) (k : VariableType) {Γ : Scope} → in_type ds k ≡ [] → Handled ds Γ → Handled ds (record { name = x; ty = k } ∷ Γ)
handled_type ds x Int q t = int t
handled_type ds x Coroutine q t = coro t
handled_type ds x (Resumption h) q t = res (a_type ds h (handler_of ds h) q).1 t

handled_parameters : (ds : List Declaration) (ps : List Parameter) {Γ : Scope} → in_types ds ps ≡ [] → Handled ds Γ → Handled ds (map parameter ps ++ Γ)
handled_parameters ds [] q t = t
handled_parameters ds (x ∷ ps) q t =
    let u = parts (in_type ds x.ty) (in_types ds ps) q in
    handled_type ds x.name x.ty u.0 (handled_parameters ds ps u.1 t)

handled_ints : (ds : List Declaration) (xs : List Name) {Γ : Scope} → Handled ds Γ → Handled ds (map number_name xs ++ Γ)
handled_ints ds [] t = t
handled_ints ds (x ∷ xs) t = int (handled_ints ds xs t)

types_handled : (ds : List Declaration) (ps : List Parameter) → in_parameters ds ps ≡ [] → in_types ds ps ≡ []
types_handled ds ps q = (parts (when (nat_lt 8 (length ps)) rule.TooManyParameters) (in_types ds ps) q).1

-- ## Declarations

data AllEmpty : List (List Rule) → Type 0 where
  no_lists : AllEmpty []
  empty : {rs : List Rule} {rest : List (List Rule)} → rs ≡ [] → AllEmpty rest → AllEmpty (rs ∷ rest)

all_empty : (broken : List (List Rule)) → ((d : ℕ) (r : Rule) → Has broken d r → ⊥) → AllEmpty broken
all_empty [] good = no_lists
all_empty ([] ∷ rest) good = empty refl (all_empty rest (λ d r h. good (suc d) r (record { rules = h.rules; there = h.there; is = h.is })))
all_empty ((r ∷ rs) ∷ rest) good = absurd (good zero r (record { rules = r ∷ rs; there = refl; is = first }))

first_empty : (xs ys : List (List Rule)) → AllEmpty (xs ++ ys) → AllEmpty xs
first_empty [] ys t = no_lists
first_empty (x ∷ xs) ys (empty q t) = empty q (first_empty xs ys t)

last_empty : (xs ys : List (List Rule)) → AllEmpty (xs ++ ys) → AllEmpty ys
last_empty [] ys t = t
last_empty (x ∷ xs) ys (empty q t) = last_empty xs ys t

head_empty : {x : List Rule} {xs : List (List Rule)} → AllEmpty (x ∷ xs) → x ≡ []
head_empty (empty q t) = q

tail_empty : {x : List Rule} {xs : List (List Rule)} → AllEmpty (x ∷ xs) → AllEmpty xs
tail_empty (empty q t) = t

definition_empty : (ds : List Declaration) (before : List Name) (es : List Declaration) (f : Name) (d : Definition) → AllEmpty (in_declarations ds before es) → definition_of es f ≡ Some d → in_definition ds f d ≡ []
definition_empty ds before [] f d t e = absurd (cc)
definition_empty ds before (c ∷ es) f d t e = bool_of (bytes_eq c.name f) (λ b. (if b then Some c.definition else definition_of es f) ≡ Some d → in_definition ds f d ≡ [])
    (λ q g. let u = parts (when (is_among before c.name) rule.NameDeclaredTwice) (in_definition ds c.name c.definition) (head_empty t) in
    let same_definition : c.definition ≡ d = cc g in
    ap (λ (y : Name). in_definition ds y d) (same_is f c.name q) ∙ ap (λ (y : Definition). in_definition ds c.name y) (sym same_definition) ∙ u.1)
    (λ q g. definition_empty ds (c.name ∷ before) es f d (tail_empty t) g) e

pub is_function : (o : Option Definition) (g : Function) → as_function o ≡ Some g → o ≡ Some (definition.Function g)
is_function None g e = absurd (cc)
is_function (Some (definition.Effect n)) g e = absurd (cc)
is_function (Some (definition.Function f)) g e = ap (λ (x : Function). Some (definition.Function x)) (cc e)
is_function (Some (definition.Handler h)) g e = absurd (cc)
is_function (Some (definition.Slots d)) g e = absurd (cc)

pub is_handler : (o : Option Definition) (i : Handler) → as_handler o ≡ Some i → o ≡ Some (definition.Handler i)
is_handler None i e = absurd (cc)
is_handler (Some (definition.Effect n)) i e = absurd (cc)
is_handler (Some (definition.Function f)) i e = absurd (cc)
is_handler (Some (definition.Slots d)) i e = absurd (cc)
is_handler (Some (definition.Handler h)) i e = ap (λ (x : Handler). Some (definition.Handler x)) (cc e)

pub is_slots : (o : Option Definition) (d : Slots) → as_slots o ≡ Some d → o ≡ Some (definition.Slots d)
is_slots None d e = absurd (cc)
is_slots (Some (definition.Effect n)) d e = absurd (cc)
is_slots (Some (definition.Function f)) d e = absurd (cc)
is_slots (Some (definition.Handler h)) d e = absurd (cc)
is_slots (Some (definition.Slots x)) d e = ap (λ (y : Slots). Some (definition.Slots y)) (cc e)

-- a clause that breaks no rule
record Clause_empty (ds : List Declaration) (h : Name) (i : Handler) (op : Name) (c : Clause) : Type 0 where
  before : List Name
  head : in_head (effect_of ds c.effect) before c ≡ []
  body : in_body ds (of_clause h i c) c.body ≡ []
  named : op ≡ c.effect

clause_is : (ds : List Declaration) (h : Name) (i : Handler) (before : List Name) (op : Name) (d c : Clause) → in_head (effect_of ds d.effect) before d ≡ [] → in_body ds (of_clause h i d) d.body ≡ []
    → op ≡ d.effect → d ≡ c → Clause_empty ds h i op c
clause_is ds h i before op d c head body named is = record {
  before = before;
  head = subst (λ (x : Clause). in_head (effect_of ds x.effect) before x ≡ []) is head;
  body = subst (λ (x : Clause). in_body ds (of_clause h i x) x.body ≡ []) is body;
  named = named ∙ ap (λ (x : Clause). x.effect) is;
}

clause_empty : (ds : List Declaration) (h : Name) (i : Handler) (before : List Name) (cs : List Clause) (op : Name) (c : Clause) → in_clauses ds h i before cs ≡ [] → clause_of op cs ≡ Some c
    → Clause_empty ds h i op c
clause_empty ds h i before [] op c q e = absurd (cc)
clause_empty ds h i before (d ∷ cs) op c q e =
    let t = parts (in_head (effect_of ds d.effect) before d ++ in_body ds (of_clause h i d) d.body) (in_clauses ds h i (d.effect ∷ before) cs) q in
    let u = parts (in_head (effect_of ds d.effect) before d) (in_body ds (of_clause h i d) d.body) t.0 in
    bool_of (bytes_eq d.effect op) (λ b. (if b then Some d else clause_of op cs) ≡ Some c → Clause_empty ds h i op c)
    (λ r g. clause_is ds h i before op d c u.0 u.1 (same_is op d.effect r) (cc g))
    (λ r g. clause_empty ds h i (d.effect ∷ before) cs op c t.1 g) e

head_number : (o : Option ℕ) (before : List Name) (c : Clause) → in_head o before c ≡ [] → o ≡ Some (length c.arguments)
head_number None before c e = absurd (cc)
head_number (Some n) before c e =
    let t = parts (when (is_among before c.effect) rule.ClauseForEffectTwice) (when (not (nat_eq (length c.arguments) n)) rule.OtherNumberInClause) e in
    ap Some (sym (same_number (length c.arguments) n (not_false (nat_eq (length c.arguments) n) (when_not (not (nat_eq (length c.arguments) n)) rule.OtherNumberInClause t.1))))

no_parameters : (ps : List Parameter) → nat_eq (length ps) 0 ≡ true → ps ≡ []
no_parameters [] e = refl
no_parameters (x ∷ ps) e = absurd (let q : length (x ∷ ps) ≡ 0 = same_number (length (x ∷ ps)) 0 e in omega arith)

entry_of : (o : Option Function) → is_main o ≡ true → (g : Function) × (o ≡ Some g) × (g.parameters ≡ [])
entry_of None e = absurd (cc)
entry_of (Some g) e = (g, refl, no_parameters g.parameters e)

module _ (p : Script) (good : Good p) where
  all : AllEmpty (in_declarations p.declarations [] p.declarations)
  all = first_empty (in_declarations p.declarations [] p.declarations) (in_main p.declarations ∷ []) (all_empty (broken_rules p.declarations) good.none)

  last : AllEmpty (in_main p.declarations ∷ [])
  last = last_empty (in_declarations p.declarations [] p.declarations) (in_main p.declarations ∷ []) (all_empty (broken_rules p.declarations) good.none)

  slots_handled : SlotsHandled p.declarations
  unfolding SlotsHandled
  slots_handled s d e =
      let q = definition_empty p.declarations [] p.declarations s (definition.Slots d) all (is_slots (definition_of p.declarations s) d e) in
      let t = parts (in_type p.declarations (Resumption d.handler)) (when (not (nat_lt 0 d.places.value && nat_lt d.places.value 65537)) rule.SlotsOfOtherNumber) q in
      a_type p.declarations d.handler (handler_of p.declarations d.handler) t.0

  function_typed : (f : Name) (g : Function) → function_of p.declarations f ≡ Some g → BlockTyped p (map parameter g.parameters) g.body
  function_typed f g e =
      let q = definition_empty p.declarations [] p.declarations f (definition.Function g) all (is_function (definition_of p.declarations f) g e) in
      let t = parts (in_parameters p.declarations g.parameters) (in_body p.declarations (map parameter g.parameters) g.body) q in
      let hs = handled_parameters p.declarations g.parameters (types_handled p.declarations g.parameters t.0) no_names in
      body_typed p slots_handled (map parameter g.parameters) g.body (handlers_of (rw append-nil at hs)) t.1

  pub record Handler_empty (h : Name) (i : Handler) : Type 0 where
    pub types : in_types p.declarations i.parameters ≡ []
    pub returned : in_body p.declarations (of_return i) i.return_clause.body ≡ []
    pub clauses : in_clauses p.declarations h i [] i.clauses ≡ []

  -- the bodies of a handler break no rule
  pub handler_empty : (h : Name) (i : Handler) → handler_of p.declarations h ≡ Some i → Handler_empty h i
  handler_empty h i e =
      let q = definition_empty p.declarations [] p.declarations h (definition.Handler i) all (is_handler (definition_of p.declarations h) i e) in
      let t = parts (in_header p.declarations i) (in_bodies p.declarations h i) q in
      let u = parts (in_parameters p.declarations i.parameters) (when (nat_lt 16 (length i.clauses)) rule.TooManyClauses) t.0 in
      let v = parts (in_body p.declarations (of_return i) i.return_clause.body) (in_clauses p.declarations h i [] i.clauses) t.1 in
      record { types = types_handled p.declarations i.parameters u.0; returned = v.0; clauses = v.1 }

  return_typed : (h : Name) (i : Handler) → handler_of p.declarations h ≡ Some i → BlockTyped p (of_return i) i.return_clause.body
  return_typed h i e =
      let t = handler_empty h i e in
      body_typed p slots_handled (of_return i) i.return_clause.body (handlers_of (handled_parameters p.declarations i.parameters t.types (int no_names))) t.returned

  clause_typed : (h op : Name) (i : Handler) (c : Clause) → handler_of p.declarations h ≡ Some i → clause_of op i.clauses ≡ Some c → ClauseTyped p h op i c
  clause_typed h op i c e f =
      let t = handler_empty h i e in
      let u = clause_empty p.declarations h i [] i.clauses op c t.clauses f in
      record {
        is_effect = ap (effect_of p.declarations) u.named ∙ head_number (effect_of p.declarations c.effect) u.before c u.head;
        body = body_typed p slots_handled (of_clause h i c) c.body (handlers_of (handled_parameters p.declarations i.parameters t.types (handled_ints p.declarations c.arguments (res e no_names)))) u.body;
      }

  pub good_typed : ScriptTyped p
  good_typed = record {
    functions = function_typed;
    returns = return_typed;
    clauses = clause_typed;
    entry = entry_of (function_of p.declarations (codes "main")) (not_false (is_main (function_of p.declarations (codes "main"))) (when_not (not (is_main (function_of p.declarations (codes "main")))) rule.NoMain (head_empty last)));
  }
