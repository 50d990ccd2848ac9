-- What is done next in a typed term is typed.
use Rattle.std.proofs.Common.{◌≡◌, suc, List, [], ◌∷◌, ◌++◌, length, Option, Some, if◌then◌else◌, refl, ap, ◌∙◌, subst}
use Rattle.s_syntax.specs.declared.name.Name.{Name}
use Rattle.s_syntax.specs.declared.number.Number.{Number}
use Rattle.s_syntax.specs.declared.script.VariableType.{VariableType}
use Rattle.s_syntax.specs.declared.script.VariableType.TheVariants.{Int, Coroutine}
use Rattle.s_syntax.specs.declared.operators.UnaryOperator.{UnaryOperator}
use Rattle.s_syntax.specs.declared.operators.Connective.{Connective}
use Rattle.s_syntax.specs.declared.operators.BinaryOperator.{BinaryOperator}
use Rattle.s_syntax.specs.declared.operators.BinaryOperator.TheVariants.{Connects, Compares, Computes}
use Rattle.s_syntax.specs.declared.script.Parameter.{Parameter}
use Rattle.s_syntax.specs.declared.script.Function.{Function}
use Rattle.s_syntax.specs.declared.script.Script.{Script}
use Rattle.s_syntax.specs.ExprTree.{ExprTree, Exprs, Operands}
use Rattle.s_syntax.specs.BlockTree.{StatementTree, BlockTree, Done, ◌⨟◌}
use Rattle.s_check.specs.Definitions.{function_of}
use Rattle.s_check.specs.Scopes.{Scope, type_in, coroutine as coroutine_name}
use Rattle.s_check.specs.Rules.{count}
use Rattle.s_meaning.specs.Typing
use Rattle.s_meaning.specs.Typing.{kinds, ExprTyped, OperandsTyped, ArgsTyped, literal, read, unary, run, call, does, handle, resume, group, no_more, next, no_args, number, resumption, coroutine, Fits, lets, assigns, stores_in, takes_from, switches_to, StatementTyped, evaluates, ifs, whiles, fails, spawns}
use Rattle.s_meaning.proofs.Scopes.{bool_of, keeps_bound}
use Rattle.s_meaning.proofs.Variables.{covers_less}
use Rattle.s_meaning.specs.Terms.{Value, Row, ε, Variable, Head, Handling, Resuming, TailResuming, Use, Work, Among, Within, ToReturn, Hole}
use Rattle.s_meaning.specs.Focus.{followed_by, Redex, Constant, Lookup, OnUnary, OnBinary, Decides, Applies, Uses, Fails, Spawns, Ends, Focused, left_of, in_expr, in_args, in_both, variable_of, is_own, in_return, in_block, in_work, focus}
use Rattle.s_meaning.specs.Typed
use Rattle.s_meaning.specs.Typed.{World, HasKind, FirstHave, begun, further, RestTyped, begins, behind, UseTyped, stores, chooses, turns, puts, takes, switching, WorkTyped, HeadTyped, under, left, right, among, within, calling, tail_calling, doing, handling, resuming, tail_resuming, grouping, HoleTyped, gives, finds, runs, Covers}

-- a redex and the pending work around it
pub data RedexTyped (p : Script) (Ξ : World) (Γ : Scope) : Redex → List Work → Type 0 where
  constant : {n : Number} {w : List Work} → WorkTyped p Ξ Γ w Int → RedexTyped p Ξ Γ (Constant n) w
  lookup : {x : Name} {k : VariableType} {w : List Work} → type_in Γ x ≡ Some k → WorkTyped p Ξ Γ w k → RedexTyped p Ξ Γ (Lookup x) w
  on_unary : {o : UnaryOperator} {v : Value} {w : List Work} → HasKind Ξ v Int → WorkTyped p Ξ Γ w Int → RedexTyped p Ξ Γ (OnUnary o v) w
  on_binary : {o : BinaryOperator} {u v : Value} {w : List Work} → HasKind Ξ u Int → HasKind Ξ v Int → WorkTyped p Ξ Γ w Int → RedexTyped p Ξ Γ (OnBinary o u v) w
  decides : {c : Connective} {v : Value} {e : ExprTree} {es : Operands} {w : List Work} → HasKind Ξ v Int → ExprTyped p Γ e → OperandsTyped p Γ es
      → WorkTyped p Ξ Γ w Int → RedexTyped p Ξ Γ (Decides c v e es) w
  applying : {head : Head} {all : List VariableType} {vs : Row} {w : List Work} → HeadTyped p Ξ Γ head all w → FirstHave Ξ all vs [] → RedexTyped p Ξ Γ (Applies head vs) w
  using : {u : Use} {v : Value} {Γ' : Scope} {rest : BlockTree} → UseTyped p Γ u Γ' → RestTyped p Γ' rest → HasKind Ξ v Int → RedexTyped p Ξ Γ (Uses u v rest) []
  failing : RedexTyped p Ξ Γ Fails []
  spawning : {t f : Name} {g : Function} {rest : BlockTree} → function_of p.declarations f ≡ Some g → kinds g.parameters ≡ Int ∷ Coroutine ∷ []
      → RestTyped p (coroutine_name t ∷ Γ) rest → RedexTyped p Ξ Γ (Spawns t f rest) []
  ending : RedexTyped p Ξ Γ Ends []

pub left_typed : {p : Script} {Ξ : World} {Γ : Scope} {es : Operands} {w : List Work} → OperandsTyped p Γ es → WorkTyped p Ξ Γ w Int → WorkTyped p Ξ Γ (left_of es w) Int
left_typed no_more w = w
left_typed (next t ts) w = left t ts w

args_count : {p : Script} {Γ : Scope} {ks : List VariableType} {es : Exprs} → ArgsTyped p Γ ks es → count es ≡ length ks
args_count no_args = refl
args_count (number t ts) = ap suc (args_count ts)
args_count (resumption q ts) = ap suc (args_count ts)
args_count (coroutine q ts) = ap suc (args_count ts)

kinds_count : (ps : List Parameter) → length (kinds ps) ≡ length ps
kinds_count [] = refl
kinds_count (p ∷ ps) = ap suc (kinds_count ps)

args_append : {p : Script} {Γ : Scope} {ks js : List VariableType} {es bs : Exprs} → ArgsTyped p Γ ks es → ArgsTyped p Γ js bs → ArgsTyped p Γ (ks ++ js) (followed_by es bs)
args_append no_args us = us
args_append (number t ts) us = number t (args_append ts us)
args_append (resumption q ts) us = resumption q (args_append ts us)
args_append (coroutine q ts) us = coroutine q (args_append ts us)

module _ (p : Script) (Ξ : World) (Γ : Scope) where
  -- what is found in an expression
  In : Focused → Type 0
  In f = RedexTyped p Ξ Γ f.redex f.work

  mutual
    unfolding In

    expr_focus : {e : ExprTree} {w : List Work} → ExprTyped p Γ e → WorkTyped p Ξ Γ w Int → In (in_expr e w)
    expr_focus literal w = constant w
    expr_focus (read q) w = lookup q w
    expr_focus (unary t) w = expr_focus t (under w)
    expr_focus (run t ts) w = expr_focus t (left_typed ts w)
    expr_focus (call {g = g} f ts) w = args_focus (calling f w) begun ts
    expr_focus (does op ts) w = args_focus (doing op w) begun ts
    expr_focus {w = w'} (handle {f = f'} {h = h'} {es = es} {bs = bs} {g = g} {i = i} f h ts us) w =
        let head = handling f h (args_count ts ∙ kinds_count g.parameters) w in
        both_focus (in_args (Handling f' (count es) h') ε bs w') head ts us (λ e. args_focus head (subst (λ (ks : List VariableType). FirstHave Ξ (kinds g.parameters ++ kinds i.parameters) ε ks) (ap (λ (ks : List VariableType). ks ++ kinds i.parameters) e) begun) us)
    expr_focus (resume k i t us) w = expr_focus t (among (resuming k i w) begun us)
    expr_focus (group f k t) w = expr_focus t (among (grouping f k w) begun no_args)

    args_focus : {head : Head} {all todo : List VariableType} {vs : Row} {es : Exprs} {w : List Work} → HeadTyped p Ξ Γ head all w → FirstHave Ξ all vs todo
        → ArgsTyped p Γ todo es → In (in_args head vs es w)
    args_focus head vs no_args = applying head vs
    args_focus head vs (number t ts) = expr_focus t (among head vs ts)
    args_focus head vs (resumption q ts) = lookup q (among head vs ts)
    args_focus head vs (coroutine q ts) = lookup q (among head vs ts)

    -- in two lists of arguments; `second` is for where the first has none
    both_focus : {head : Head} {ks js : List VariableType} {es bs : Exprs} {w : List Work} (second : Focused) → HeadTyped p Ξ Γ head (ks ++ js) w
        → ArgsTyped p Γ ks es → ArgsTyped p Γ js bs → (ks ≡ [] → In second) → In (in_both head es bs w second)
    both_focus second head no_args us given = given refl
    both_focus second head (number t ts) us given = expr_focus t (among head begun (args_append ts us))
    both_focus second head (resumption q ts) us given = lookup q (among head begun (args_append ts us))
    both_focus second head (coroutine q ts) us given = lookup q (among head begun (args_append ts us))

  -- in a body
  return_focus : (vars : List Variable) (owner : Option Name) {e : ExprTree} {rest : BlockTree} → ExprTyped p Γ e → RestTyped p Γ rest → In (in_return vars owner e rest)
  unfolding In
  return_focus vars owner literal b = expr_focus literal (within Typed.returns b)
  return_focus vars owner (read q) b = expr_focus (read q) (within Typed.returns b)
  return_focus vars owner (unary t) b = expr_focus (unary t) (within Typed.returns b)
  return_focus vars owner (run t ts) b = expr_focus (run t ts) (within Typed.returns b)
  return_focus vars owner (call f ts) b = args_focus (tail_calling f) begun ts
  return_focus vars owner (does op ts) b = expr_focus (does op ts) (within Typed.returns b)
  return_focus vars owner (handle f h ts us) b = expr_focus (handle f h ts us) (within Typed.returns b)
  return_focus vars owner {rest = rest} (resume {k = k} {e = e} {bs = bs} q i t us) b =
      bool_of (is_own owner (variable_of k vars)) (λ o. In (if o then in_expr e (Among (TailResuming k) ε bs ∷ []) else in_expr e (Among (Resuming k) ε bs ∷ Within ToReturn rest ∷ [])))
      (λ o. expr_focus t (among (tail_resuming q i) begun us)) (λ o. expr_focus t (among (resuming q i (within Typed.returns b)) begun us))
  return_focus vars owner (group f k t) b = expr_focus (group f k t) (within Typed.returns b)

  statement_focus : (vars : List Variable) (owner : Option Name) {s : StatementTree} {Γ' : Scope} {b : BlockTree} → StatementTyped p Γ s Γ' → RestTyped p Γ' b → In (in_block vars owner (s ⨟ b))
  unfolding In
  statement_focus vars owner (evaluates t (lets f)) b = expr_focus t (within stores b)
  statement_focus vars owner (evaluates t (assigns {x = x} q)) b =
      let f : Fits x Int Γ = record { fits = λ k e. cc (q, e) } in
      expr_focus t (within stores (behind (keeps_bound f) b))
  statement_focus vars owner (evaluates t Typing.prints) b = expr_focus t (within Typed.prints b)
  statement_focus vars owner (evaluates t Typing.returns) b = return_focus vars owner t b
  statement_focus vars owner (evaluates t Typing.drops) b = expr_focus t (within Typed.drops b)
  statement_focus vars owner (evaluates t (stores_in q i)) b = expr_focus t (within (puts q i) b)
  statement_focus vars owner (evaluates t (takes_from q f)) b = expr_focus t (within (takes q) b)
  statement_focus vars owner (evaluates t (switches_to q f g)) b = expr_focus t (within (switching q) b)
  statement_focus vars owner (ifs t b c) d = expr_focus t (within (chooses b c) d)
  statement_focus vars owner (whiles t b) d = expr_focus t (within (turns t b) d)
  statement_focus vars owner fails b = failing
  statement_focus vars owner (spawns f k q) b = spawning f k b

  record Found_in (o : Option Focused) : Type 0 where
    focused : Focused
    is : o ≡ Some focused
    typed : In focused

  work_focus : {v : Value} {w : List Work} {k : VariableType} → HasKind Ξ v k → WorkTyped p Ξ Γ w k → Found_in (in_work v w)
  unfolding In
  work_focus h (under w) = record { focused = _; is = refl; typed = on_unary h w }
  work_focus h (left {o = Connects c} t ts w) = record { focused = _; is = refl; typed = decides h t ts w }
  work_focus h (left {o = Compares c} t ts w) = record { focused = _; is = refl; typed = expr_focus t (right h ts w) }
  work_focus h (left {o = Computes c} t ts w) = record { focused = _; is = refl; typed = expr_focus t (right h ts w) }
  work_focus h (right u ts w) = record { focused = _; is = refl; typed = on_binary u h (left_typed ts w) }
  work_focus h (among head vs ts) = record { focused = _; is = refl; typed = args_focus head (further vs h) ts }
  work_focus h (within u b) = record { focused = _; is = refl; typed = using u b h }

-- what is done next in an activation
pub record NextTyped (p : Script) (Ξ : World) (vars : List Variable) (o : Option Focused) : Type 0 where
  pub scope : Scope
  pub covers : Covers Ξ scope vars
  pub focused : Focused
  pub is : o ≡ Some focused
  pub typed : RedexTyped p Ξ scope focused.redex focused.work

-- what is left of a body begins with this statement, in a scope that the variables cover
pub record Begun (p : Script) (Ξ : World) (vars : List Variable) (s : StatementTree) (b : BlockTree) : Type 0 where
  pub scope : Scope
  pub covers : Covers Ξ scope vars
  pub after : Scope
  pub typed : StatementTyped p scope s after
  pub rest : RestTyped p after b

pub rest_begun : {p : Script} {Ξ : World} {Γ : Scope} {vars : List Variable} {s : StatementTree} {b : BlockTree} → Covers Ξ Γ vars → RestTyped p Γ (s ⨟ b) → Begun p Ξ vars s b
rest_begun c (begins {Γ = Γ} {Γ' = Γ'} t r) = record { scope = Γ; covers = c; after = Γ'; typed = t; rest = r }
rest_begun c (behind m r) = rest_begun (covers_less m c) r

-- in what is left of a body
rest_focus : {p : Script} {Ξ : World} {Γ : Scope} {vars : List Variable} (owner : Option Name) (b : BlockTree) → Covers Ξ Γ vars → RestTyped p Γ b → NextTyped p Ξ vars (Some (in_block vars owner b))
unfolding In
rest_focus {Γ = Γ} owner Done c t = record { scope = Γ; covers = c; focused = _; is = refl; typed = ending }
rest_focus {p} {Ξ} {vars = vars} owner (s ⨟ b) c t =
    let r = rest_begun c t in
    record { scope = r.scope; covers = r.covers; focused = _; is = refl; typed = statement_focus p Ξ r.scope vars owner r.typed r.rest }

pub next_typed : {p : Script} {Ξ : World} {hole : Hole} {vars : List Variable} (owner : Option Name) {w : List Work} → HoleTyped p Ξ hole vars w → NextTyped p Ξ vars (focus vars owner hole w)
unfolding In
next_typed {p} {Ξ} owner (gives {Γ = Γ} c h w) = let f = work_focus p Ξ Γ h w in record { scope = Γ; covers = c; focused = f.focused; is = f.is; typed = f.typed }
next_typed {p} {Ξ} owner (finds {Γ = Γ} c t w) = record { scope = Γ; covers = c; focused = _; is = refl; typed = expr_focus p Ξ Γ t w }
next_typed owner (runs {b = b} c t) = rest_focus owner b c t
