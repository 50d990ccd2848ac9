-- Types of more than five parameters. Each costs a script six at least: that of a function or a handler the parameters of its declaration, that of
-- a function's continuations the arguments of a handle that names it. So they are few, whether different or not. The functions that groups and
-- spawns name have two parameters at most.
use Rattle.std.proofs.Common.{◌≡◌, inl, inr, ℕ, zero, suc, ◌+◌, ◌*◌, ◌<◌, ◌≤◌, Bool, true, false, not, ◌||◌, List, [], ◌∷◌, ◌++◌, map, length, Option, Some, None, if◌then◌else◌, refl, sym, ap, ◌∙◌, subst, arith, length-append}
use Rattle.std.specs.Prelude.{nat_lt, nat_eq, sum_by}
use Rattle.std.specs.Str.{bytes_eq}
use Rattle.std.proofs.lemmas.Bool.{eqb-true, cases_lt, lt-ltb, le-ltb}
use Rattle.std.proofs.lemmas.List.Sums.{sum_by-cons}
use Rattle.w_types.specs.declared.types.CompType.{CompType}
use Rattle.s_syntax.specs.declared.name.Name.{Name}
use Rattle.s_syntax.specs.declared.script.Parameter.{Parameter}
use Rattle.s_syntax.specs.declared.script.Function.{Function}
use Rattle.s_syntax.specs.declared.script.Clause.{Clause}
use Rattle.s_syntax.specs.declared.script.Handler.{Handler}
use Rattle.s_syntax.specs.declared.script.Definition.{Definition}
use Rattle.s_syntax.specs.declared.script.Definition.TheVariants as definition
use Rattle.s_syntax.specs.declared.script.Declaration.{Declaration}
use Rattle.s_syntax.specs.declared.script.Script.{Script}
use Rattle.s_syntax.specs.ExprTree.{ExprTree, Literal, Read, Unary, Run, Call, Do, Handle, Resume, Group, Exprs, NoExprs, MoreExprs, Operands, NoOperands, MoreOperands}
use Rattle.s_syntax.specs.BlockTree.{StatementTree, BlockTree, Evaluate, If, While, Fail, Spawn, Done, ◌⨟◌}
use Rattle.s_check.specs.declared.rule.Rule.TheVariants as rule
use Rattle.s_check.specs.Definitions.{function_of, handler_of, effect_of}
use Rattle.s_check.specs.Refusal.{Good}
use Rattle.s_check.specs.Rules.{when, all_suit, count, against, for_function, for_effect, for_handler, for_resumed, takes_number, takes_both, for_grouped, for_spawned, in_expr, in_exprs, in_operands, in_use, bound_after, in_statement, in_block, in_body, in_parameters, in_head, in_clauses, in_header, in_bodies, in_definition, in_declaration, in_declarations}
use Rattle.s_check.specs.Scopes.{Scope, Bound, type_in, bind_all, parameter, of_clause, of_return, lets_in, is_among, some_twice}
use Rattle.s_check.specs.Size.{expr_size, exprs_size, operands_size, statement_size, block_size, clause_size, definition_size, Size}
use Rattle.s_index.specs.Types.{function_type, handler_type}
use Rattle.s_index.specs.Handled.{handled_in_expr, handled_in_exprs, handled_in_operands, handled_in_statement, handled_in_block, handled_in_clauses, handled_in_definition, handled_names}
use Rattle.s_index.specs.Indices.{continuation_of, parameters_of}
use Rattle.s_meaning.proofs.Scopes.{same_is}
use Rattle.s_valid.proofs.Declarations.{AreEmpty, parts, when_not, not_false, good_empty}
use Rattle.s_valid.proofs.ModuleOffers.{parameters_are}
use Rattle.s_valid.proofs.MadeOnce.{IsThere, here, there_left, there_right}

-- ## Types of more than five

-- the type, where there are more than five
abbrev pub where_long : ℕ → CompType → List CompType
where_long n t = if nat_lt 5 n then t ∷ [] else []

-- six for it are no more than these
long_cost : (n : ℕ) (t : CompType) → 6 * length (where_long n t) ≤ n
long_cost n t = elim (cases_lt 5 n) [
  | inl lt ↦ rw (lt-ltb 5 n lt) (omega (arith, lt))
  | inr le ↦ rw (le-ltb 5 n le) (omega arith)
]

-- where there are no more there is none
short_none : (n : ℕ) (t : CompType) → n ≤ 5 → length (where_long n t) ≡ 0
short_none n t le = rw (le-ltb 5 n le) refl

-- and where there are, it stands there
pub long_there : (n : ℕ) (t : CompType) → 5 < n → IsThere t (where_long n t)
long_there n t lt = subst (λ (b : Bool). IsThere t (if b then t ∷ [] else [])) (sym (lt-ltb 5 n lt)) (here t [])

-- that of a declaration
abbrev pub long_type : Definition → List CompType
long_type (definition.Effect n) = []
long_type (definition.Function f) = where_long (length f.parameters) (function_type f.parameters)
long_type (definition.Handler h) = where_long (length h.parameters) (handler_type h.parameters)
long_type (definition.Slots s) = []

-- and those of all, as often as they are declared
abbrev pub long_types : List Declaration → List CompType
long_types [] = []
long_types (d ∷ ds) = long_type d.definition ++ long_types ds

-- the functions of groups and coroutines have no more than five
number_few : (ps : List Parameter) → takes_number ps ≡ true → length ps ≤ 5
number_few [] e = absurd (cc)
number_few (a ∷ []) e = omega arith
number_few (a ∷ b ∷ ps) e = absurd (cc)

both_few : (ps : List Parameter) → takes_both ps ≡ true → length ps ≤ 5
both_few [] e = absurd (cc)
both_few (a ∷ []) e = absurd (cc)
both_few (a ∷ b ∷ []) e = omega arith
both_few (a ∷ b ∷ c ∷ ps) e = absurd (cc)

module _ (ds : List Declaration) where
  -- that of the continuations of a function
  abbrev long_continuation : Name → List CompType
  long_continuation f = where_long (length (parameters_of ds f)) (continuation_of ds (parameters_of ds f))

  -- and those of functions of these names, as often as they are named
  abbrev pub long_continuations : List Name → List CompType
  long_continuations [] = []
  long_continuations (f ∷ fs) = long_continuation f ++ long_continuations fs

  -- where a name is among these, the type of its continuations is among those
  pub handled_long : (names : List Name) (f : Name) → is_among names f ≡ true → 5 < length (parameters_of ds f) → IsThere (continuation_of ds (parameters_of ds f)) (long_continuations names)
  handled_long [] f e lt = absurd (cc)
  handled_long (x ∷ xs) f e lt = by (bytes_eq x f) refl e (λ q. handled_long xs f q lt)
    where
      by : (b : Bool) → bytes_eq x f ≡ b → (b || is_among xs f) ≡ true → (is_among xs f ≡ true → IsThere (continuation_of ds (parameters_of ds f)) (long_continuations xs))
          → IsThere (continuation_of ds (parameters_of ds f)) (long_continuations (x ∷ xs))
      by true same q rest =
          there_left (continuation_of ds (parameters_of ds f)) (long_continuation x) (long_continuations xs)
          (subst (λ (y : Name). IsThere (continuation_of ds (parameters_of ds f)) (long_continuation y)) (same_is f x same)
          (long_there (length (parameters_of ds f)) (continuation_of ds (parameters_of ds f)) lt))
      by false other q rest = there_right (continuation_of ds (parameters_of ds f)) (long_continuation x) (long_continuations xs) (rest q)

  -- how many they are
  abbrev longs : List Name → ℕ
  longs [] = 0
  longs (f ∷ fs) = length (long_continuation f) + longs fs

  -- as the length of the list says
  longs_length : (fs : List Name) → length (long_continuations fs) ≡ longs fs
  longs_length [] = refl
  longs_length (f ∷ fs) = length-append (long_continuation f) (long_continuations fs) ∙ ap (λ (n : ℕ). length (long_continuation f) + n) (longs_length fs)

  -- of two lists of names the sum
  longs_append : (fs gs : List Name) → longs (fs ++ gs) ≡ longs fs + longs gs
  longs_append [] gs = omega arith
  longs_append (f ∷ fs) gs = let q = longs_append fs gs in omega (arith, q)

  -- ## What they cost

  -- arguments that break no rule are as many as the parameters
  same_count : (bs : Scope) (ps : List Parameter) (es : Exprs) → against ds bs ps es ≡ [] → count es ≡ length ps
  same_count bs ps es q = by (nat_eq (count es) (length ps)) refl q
    where
      by : (b : Bool) → nat_eq (count es) (length ps) ≡ b → (if b then when (not (all_suit ds bs ps es)) rule.ArgumentOfOtherType else (rule.OtherNumberOfArguments ∷ [])) ≡ [] → count es ≡ length ps
      by true e r = eqb-true (count es) (length ps) e
      by false e r = absurd (cc)

  -- so a handle of a function of more than five has six at least
  handle_cost : (bs : Scope) (f : Name) (es : Exprs) → for_function ds bs (function_of ds f) es ≡ [] → 6 * length (long_continuation f) ≤ count es
  handle_cost bs f es q = by (function_of ds f) refl q
    where
      by : (o : Option Function) → function_of ds f ≡ o → for_function ds bs o es ≡ [] → 6 * length (long_continuation f) ≤ count es
      by None e r = absurd (cc)
      by (Some g) e r =
          let n = same_count bs g.parameters es r in
          let ps = ap length (parameters_are ds f g e) in
          let c = long_cost (length (parameters_of ds f)) (continuation_of ds (parameters_of ds f)) in
          omega (arith, n, ps, c)

  -- a function of five at most costs nothing
  short_continuation : (f : Name) (g : Function) → function_of ds f ≡ Some g → length g.parameters ≤ 5 → length (long_continuation f) ≡ 0
  short_continuation f g e few =
      let ps = ap length (parameters_are ds f g e) in
      short_none (length (parameters_of ds f)) (continuation_of ds (parameters_of ds f)) (omega (arith, ps, few))

  -- as those of groups
  group_cost : (f : Name) → for_grouped (function_of ds f) ≡ [] → length (long_continuation f) ≡ 0
  group_cost f q = by (function_of ds f) refl q
    where
      by : (o : Option Function) → function_of ds f ≡ o → for_grouped o ≡ [] → length (long_continuation f) ≡ 0
      by None e r = absurd (cc)
      by (Some g) e r = short_continuation f g e (number_few g.parameters (not_false (takes_number g.parameters) (when_not (not (takes_number g.parameters)) rule.OtherParameters r)))

  -- and those that are spawned
  spawn_cost : (f : Name) → for_spawned (function_of ds f) ≡ [] → length (long_continuation f) ≡ 0
  spawn_cost f q = by (function_of ds f) refl q
    where
      by : (o : Option Function) → function_of ds f ≡ o → for_spawned o ≡ [] → length (long_continuation f) ≡ 0
      by None e r = absurd (cc)
      by (Some g) e r = short_continuation f g e (both_few g.parameters (not_false (takes_both g.parameters) (when_not (not (takes_both g.parameters)) rule.OtherParameters r)))

  -- an expression costs six for each of those that it handles, and one for its root;
  -- of arguments that one is left for the handle around them
  mutual
    expr_cost : (bs : Scope) (whole : Bool) (e : ExprTree) → in_expr ds bs whole e ≡ [] → 1 + 6 * longs (handled_in_expr e) ≤ expr_size e
    expr_cost bs whole (Literal n) q = omega arith
    expr_cost bs whole (Read x) q = omega arith
    expr_cost bs whole (Unary o e) q = let a = expr_cost bs false e q in omega (arith, a)
    expr_cost bs whole (Run e ps) q =
        let t = parts (in_expr ds bs false e) (in_operands ds bs ps) q in
        let a = expr_cost bs false e t.0 in
        let b = operands_cost bs ps t.1 in
        let l = longs_append (handled_in_expr e) (handled_in_operands ps) in
        omega (arith, a, b, l)
    expr_cost bs whole (Call f es) q =
        let t = parts (for_function ds bs (function_of ds f) es) (in_exprs ds bs true es) q in
        let a = exprs_cost bs true es t.1 in
        omega (arith, a)
    expr_cost bs whole (Do op es) q =
        let t = parts (for_effect (effect_of ds op) es) (in_exprs ds bs false es) q in
        let a = exprs_cost bs false es t.1 in
        omega (arith, a)
    expr_cost bs whole (Handle f es h ps) q =
        let t = parts (for_function ds bs (function_of ds f) es ++ in_exprs ds bs true es) (for_handler ds bs (handler_of ds h) ps ++ in_exprs ds bs true ps) q in
        let u = parts (for_function ds bs (function_of ds f) es) (in_exprs ds bs true es) t.0 in
        let v = parts (for_handler ds bs (handler_of ds h) ps) (in_exprs ds bs true ps) t.1 in
        let a = exprs_cost bs true es u.1 in
        let b = exprs_cost bs true ps v.1 in
        let c = handle_cost bs f es u.0 in
        let l = longs_append (handled_in_exprs es) (handled_in_exprs ps) in
        omega (arith, a, b, c, l)
    expr_cost bs whole (Resume k e ps) q =
        let t = parts (in_expr ds bs false e) (for_resumed ds bs (type_in bs k) ps ++ in_exprs ds bs true ps) q in
        let u = parts (for_resumed ds bs (type_in bs k) ps) (in_exprs ds bs true ps) t.1 in
        let a = expr_cost bs false e t.0 in
        let b = exprs_cost bs true ps u.1 in
        let l = longs_append (handled_in_expr e) (handled_in_exprs ps) in
        omega (arith, a, b, l)
    expr_cost bs whole (Group f e) q =
        let t = parts (for_grouped (function_of ds f)) (in_expr ds bs false e) q in
        let a = expr_cost bs false e t.1 in
        let c = group_cost f t.0 in
        omega (arith, a, c)

    exprs_cost : (bs : Scope) (whole : Bool) (es : Exprs) → in_exprs ds bs whole es ≡ [] → count es + 6 * longs (handled_in_exprs es) ≤ exprs_size es
    exprs_cost bs whole NoExprs q = omega arith
    exprs_cost bs whole (MoreExprs e es) q =
        let t = parts (in_expr ds bs whole e) (in_exprs ds bs whole es) q in
        let a = expr_cost bs whole e t.0 in
        let b = exprs_cost bs whole es t.1 in
        let l = longs_append (handled_in_expr e) (handled_in_exprs es) in
        omega (arith, a, b, l)

    operands_cost : (bs : Scope) (ps : Operands) → in_operands ds bs ps ≡ [] → 6 * longs (handled_in_operands ps) ≤ operands_size ps
    operands_cost bs NoOperands q = omega arith
    operands_cost bs (MoreOperands o e ps) q =
        let t = parts (in_expr ds bs false e) (in_operands ds bs ps) q in
        let a = expr_cost bs false e t.0 in
        let b = operands_cost bs ps t.1 in
        let l = longs_append (handled_in_expr e) (handled_in_operands ps) in
        omega (arith, a, b, l)

  -- statements and blocks cost six for each
  mutual
    statement_cost : (bs : Scope) (s : StatementTree) → in_statement ds bs s ≡ [] → 6 * longs (handled_in_statement s) ≤ statement_size s
    statement_cost bs (Evaluate u e) q = let a = expr_cost bs false e (parts (in_use ds bs u) (in_expr ds bs false e) q).1 in omega (arith, a)
    statement_cost bs (If c a b) q =
        let t = parts (in_expr ds bs false c) (in_block ds bs a ++ in_block ds bs b) q in
        let u = parts (in_block ds bs a) (in_block ds bs b) t.1 in
        let x = expr_cost bs false c t.0 in
        let y = block_cost bs a u.0 in
        let z = block_cost bs b u.1 in
        let l = longs_append (handled_in_expr c) (handled_in_block a ++ handled_in_block b) in
        let m = longs_append (handled_in_block a) (handled_in_block b) in
        omega (arith, x, y, z, l, m)
    statement_cost bs (While c b) q =
        let t = parts (in_expr ds bs false c) (in_block ds bs b) q in
        let x = expr_cost bs false c t.0 in
        let y = block_cost bs b t.1 in
        let l = longs_append (handled_in_expr c) (handled_in_block b) in
        omega (arith, x, y, l)
    statement_cost bs Fail q = omega arith
    statement_cost bs (Spawn t f) q = let c = spawn_cost f q in omega (arith, c)

    block_cost : (bs : Scope) (b : BlockTree) → in_block ds bs b ≡ [] → 6 * longs (handled_in_block b) ≤ block_size b
    block_cost bs Done q = omega arith
    block_cost bs (s ⨟ b) q =
        let t = parts (in_statement ds bs s) (in_block ds (bound_after ds s bs) b) q in
        let x = statement_cost bs s t.0 in
        let y = block_cost (bound_after ds s bs) b t.1 in
        let l = longs_append (handled_in_statement s) (handled_in_block b) in
        omega (arith, x, y, l)

  -- so do bodies
  body_cost : (bs : List Bound) (b : BlockTree) → in_body ds bs b ≡ [] → 6 * longs (handled_in_block b) ≤ block_size b
  body_cost bs b q =
      block_cost (bind_all bs []) b
      (parts (when (some_twice [] (map (λ (c : Bound). c.name) bs ++ lets_in b)) rule.NameBoundTwice) (in_block ds (bind_all bs []) b) q).1

  -- and clauses
  clauses_cost : (h : Name) (i : Handler) (before : List Name) (cs : List Clause) → in_clauses ds h i before cs ≡ [] → 6 * longs (handled_in_clauses cs) ≤ sum_by clause_size cs
  clauses_cost h i before [] q = omega arith
  clauses_cost h i before (c ∷ cs) q =
      let t = parts (in_head (effect_of ds c.effect) before c ++ in_body ds (of_clause h i c) c.body) (in_clauses ds h i (c.effect ∷ before) cs) q in
      let u = parts (in_head (effect_of ds c.effect) before c) (in_body ds (of_clause h i c) c.body) t.0 in
      let x = body_cost (of_clause h i c) c.body u.1 in
      let y = clauses_cost h i (c.effect ∷ before) cs t.1 in
      let l = longs_append (handled_in_block c.body) (handled_in_clauses cs) in
      let s = sum_by-cons clause_size c cs in
      omega (arith, x, y, l, s)

  -- a definition costs six for its own type too
  definition_cost : (x : Name) (d : Definition) → in_definition ds x d ≡ [] → 6 * length (long_type d) + 6 * longs (handled_in_definition d) ≤ definition_size d
  definition_cost x (definition.Effect n) q = omega arith
  definition_cost x (definition.Function f) q =
      let t = parts (in_parameters ds f.parameters) (in_body ds (map parameter f.parameters) f.body) q in
      let a = long_cost (length f.parameters) (function_type f.parameters) in
      let b = body_cost (map parameter f.parameters) f.body t.1 in
      omega (arith, a, b)
  definition_cost x (definition.Handler h) q =
      let t = parts (in_header ds h) (in_bodies ds x h) q in
      let u = parts (in_body ds (of_return h) h.return_clause.body) (in_clauses ds x h [] h.clauses) t.1 in
      let a = long_cost (length h.parameters) (handler_type h.parameters) in
      let b = body_cost (of_return h) h.return_clause.body u.0 in
      let c = clauses_cost x h [] h.clauses u.1 in
      let l = longs_append (handled_in_block h.return_clause.body) (handled_in_clauses h.clauses) in
      omega (arith, a, b, c, l)
  definition_cost x (definition.Slots s) q = omega arith

  -- and so do all declarations
  all_cost : (before : List Name) (es : List Declaration) → AreEmpty (in_declarations ds before es)
      → 6 * length (long_types es) + 6 * longs (handled_names es) ≤ sum_by (λ (d : Declaration). definition_size d.definition) es
  all_cost before [] none = omega arith
  all_cost before (d ∷ es) none =
      let t = parts (when (is_among before d.name) rule.NameDeclaredTwice) (in_definition ds d.name d.definition) (none zero (in_declaration ds before d) refl) in
      let x = definition_cost d.name d.definition t.1 in
      let y = all_cost (d.name ∷ before) es (λ k rs. none (suc k) rs) in
      let a = length-append (long_type d.definition) (long_types es) in
      let l = longs_append (handled_in_definition d.definition) (handled_names es) in
      let s = sum_by-cons (λ (e : Declaration). definition_size e.definition) d es in
      omega (arith, x, y, a, l, s)

-- all of them, by the size of the script
pub long_types_cost : (p : Script) → Good p → 6 * length (long_types p.declarations) + 6 * length (long_continuations p.declarations (handled_names p.declarations)) ≤ Size p
long_types_cost p good =
    let q = all_cost p.declarations [] p.declarations (good_empty p good) in
    let l = longs_length p.declarations (handled_names p.declarations) in
    omega (arith, q, l)
