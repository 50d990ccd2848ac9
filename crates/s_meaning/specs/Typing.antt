-- Typed scripts: what the rules come to for a script that breaks none.
use Rattle.std.specs.Prelude.{◌≡◌, ℕ, zero, suc, List, [], ◌∷◌, map, length, codes, Some}
use Rattle.s_syntax.specs.declared.name.Name.{Name}
use Rattle.s_syntax.specs.declared.number.Number.{Number}
use Rattle.s_syntax.specs.declared.script.VariableType.{VariableType}
use Rattle.s_syntax.specs.declared.script.VariableType.TheVariants.{Int, Resumption, Coroutine}
use Rattle.s_syntax.specs.declared.operators.UnaryOperator.{UnaryOperator}
use Rattle.s_syntax.specs.declared.operators.BinaryOperator.{BinaryOperator}
use Rattle.s_syntax.specs.declared.script.Parameter.{Parameter}
use Rattle.s_syntax.specs.declared.script.Function.{Function}
use Rattle.s_syntax.specs.declared.script.Clause.{Clause}
use Rattle.s_syntax.specs.declared.script.Handler.{Handler}
use Rattle.s_syntax.specs.declared.script.Slots.{Slots}
use Rattle.s_syntax.specs.declared.script.Script.{Script}
use Rattle.s_syntax.specs.ExprTree.{ExprTree, Literal, Read, Unary, Run, Call, Do, Handle, Resume, Group, Exprs, NoExprs, MoreExprs, Operands, NoOperands, MoreOperands}
use Rattle.s_syntax.specs.declared.statement.Use.{Use as ValueUse}
use Rattle.s_syntax.specs.declared.statement.Use.TheVariants as use_for
use Rattle.s_syntax.specs.BlockTree.{StatementTree, Evaluate, If, While, Fail, Spawn, BlockTree, Done, ◌⨟◌}
use Rattle.s_check.specs.Definitions.{function_of, handler_of, effect_of, slots_of}
use Rattle.s_check.specs.Scopes.{Scope, type_in, number as number_name, resumption as resumption_name, coroutine as coroutine_name, parameter, of_clause, of_return}
use Rattle.s_meaning.specs.Steps.{clause_of}

abbrev pub kinds : List Parameter → List VariableType
kinds [] = []
kinds (p ∷ ps) = p.ty ∷ kinds ps

-- n ints
abbrev pub numbers : ℕ → List VariableType
numbers zero = []
numbers (suc n) = Int ∷ numbers n

mutual
  -- an expression that has a number
  pub data ExprTyped (p : Script) (Γ : Scope) : ExprTree → Type 0 where
    literal : {n : Number} → ExprTyped p Γ (Literal n)
    read : {x : Name} → type_in Γ x ≡ Some Int → ExprTyped p Γ (Read x)
    unary : {o : UnaryOperator} {e : ExprTree} → ExprTyped p Γ e → ExprTyped p Γ (Unary o e)
    run : {e : ExprTree} {es : Operands} → ExprTyped p Γ e → OperandsTyped p Γ es → ExprTyped p Γ (Run e es)
    call : {f : Name} {es : Exprs} {g : Function} → function_of p.declarations f ≡ Some g → ArgsTyped p Γ (kinds g.parameters) es → ExprTyped p Γ (Call f es)
    does : {op : Name} {es : Exprs} {n : ℕ} → effect_of p.declarations op ≡ Some n → ArgsTyped p Γ (numbers n) es → ExprTyped p Γ (Do op es)
    handle : {f h : Name} {es bs : Exprs} {g : Function} {i : Handler} → function_of p.declarations f ≡ Some g → handler_of p.declarations h ≡ Some i
        → ArgsTyped p Γ (kinds g.parameters) es → ArgsTyped p Γ (kinds i.parameters) bs → ExprTyped p Γ (Handle f es h bs)
    resume : {k h : Name} {e : ExprTree} {bs : Exprs} {i : Handler} → type_in Γ k ≡ Some (Resumption h) → handler_of p.declarations h ≡ Some i
        → ExprTyped p Γ e → ArgsTyped p Γ (kinds i.parameters) bs → ExprTyped p Γ (Resume k e bs)
    group : {f : Name} {e : ExprTree} {g : Function} → function_of p.declarations f ≡ Some g → kinds g.parameters ≡ Int ∷ [] → ExprTyped p Γ e → ExprTyped p Γ (Group f e)

  pub data OperandsTyped (p : Script) (Γ : Scope) : Operands → Type 0 where
    no_more : OperandsTyped p Γ NoOperands
    next : {o : BinaryOperator} {e : ExprTree} {es : Operands} → ExprTyped p Γ e → OperandsTyped p Γ es → OperandsTyped p Γ (MoreOperands o e es)

  -- arguments for parameters of these types; one for a parameter of type res h or coro is a bare name of that type
  pub data ArgsTyped (p : Script) (Γ : Scope) : List VariableType → Exprs → Type 0 where
    no_args : ArgsTyped p Γ [] NoExprs
    number : {e : ExprTree} {ks : List VariableType} {es : Exprs} → ExprTyped p Γ e → ArgsTyped p Γ ks es → ArgsTyped p Γ (Int ∷ ks) (MoreExprs e es)
    resumption : {x h : Name} {ks : List VariableType} {es : Exprs} → type_in Γ x ≡ Some (Resumption h) → ArgsTyped p Γ ks es
        → ArgsTyped p Γ (Resumption h ∷ ks) (MoreExprs (Read x) es)
    coroutine : {x : Name} {ks : List VariableType} {es : Exprs} → type_in Γ x ≡ Some Coroutine → ArgsTyped p Γ ks es
        → ArgsTyped p Γ (Coroutine ∷ ks) (MoreExprs (Read x) es)

-- a statement may bind this name with this type: the name isn't bound, or has the type already
pub record Fits (x : Name) (t : VariableType) (Γ : Scope) : Type 0 where
  pub fits : (k : VariableType) → type_in Γ x ≡ Some k → k ≡ t

-- what a statement does with its number, and what is bound behind it
pub data ValueUseTyped (p : Script) (Γ : Scope) : ValueUse → Scope → Type 0 where
  lets : {x : Name} → Fits x Int Γ → ValueUseTyped p Γ (use_for.Let x) (number_name x ∷ Γ)
  assigns : {x : Name} → type_in Γ x ≡ Some Int → ValueUseTyped p Γ (use_for.Assign x) Γ
  prints : ValueUseTyped p Γ use_for.Print Γ
  returns : ValueUseTyped p Γ use_for.Return Γ
  drops : ValueUseTyped p Γ use_for.Drop Γ
  -- it is a place: a resumption of the slots' handler is put there, or taken from there
  stores_in : {s k : Name} {d : Slots} → slots_of p.declarations s ≡ Some d → type_in Γ k ≡ Some (Resumption d.handler) → ValueUseTyped p Γ (use_for.Store s k) Γ
  takes_from : {s k : Name} {d : Slots} → slots_of p.declarations s ≡ Some d → Fits k (Resumption d.handler) Γ
      → ValueUseTyped p Γ (use_for.Take k s) (resumption_name d.handler k ∷ Γ)
  -- it is given to a coroutine; a number and a coroutine come of it
  switches_to : {x u t : Name} → type_in Γ t ≡ Some Coroutine → Fits x Int Γ → Fits u Coroutine (number_name x ∷ Γ)
      → ValueUseTyped p Γ (use_for.Switch x u t) (coroutine_name u ∷ number_name x ∷ Γ)

mutual
  -- a statement, and what is bound behind it
  pub data StatementTyped (p : Script) : Scope → StatementTree → Scope → Type 0 where
    evaluates : {Γ Γ' : Scope} {u : ValueUse} {e : ExprTree} → ExprTyped p Γ e → ValueUseTyped p Γ u Γ' → StatementTyped p Γ (Evaluate u e) Γ'
    ifs : {Γ : Scope} {e : ExprTree} {b c : BlockTree} → ExprTyped p Γ e → BlockTyped p Γ b → BlockTyped p Γ c → StatementTyped p Γ (If e b c) Γ
    whiles : {Γ : Scope} {e : ExprTree} {b : BlockTree} → ExprTyped p Γ e → BlockTyped p Γ b → StatementTyped p Γ (While e b) Γ
    fails : {Γ : Scope} → StatementTyped p Γ Fail Γ
    spawns : {Γ : Scope} {t f : Name} {g : Function} → function_of p.declarations f ≡ Some g → kinds g.parameters ≡ Int ∷ Coroutine ∷ [] → Fits t Coroutine Γ
        → StatementTyped p Γ (Spawn t f) (coroutine_name t ∷ Γ)

  -- a block as it is written: each statement sees what those before it bind
  pub data BlockTyped (p : Script) : Scope → BlockTree → Type 0 where
    done : {Γ : Scope} → BlockTyped p Γ Done
    statement : {Γ Γ' : Scope} {s : StatementTree} {b : BlockTree} → StatementTyped p Γ s Γ' → BlockTyped p Γ' b → BlockTyped p Γ (s ⨟ b)

pub record ClauseTyped (p : Script) (h op : Name) (i : Handler) (c : Clause) : Type 0 where
  pub is_effect : effect_of p.declarations op ≡ Some (length c.arguments)
  pub body : BlockTyped p (of_clause h i c) c.body

pub record ScriptTyped (p : Script) : Type 0 where
  pub functions : (f : Name) (g : Function) → function_of p.declarations f ≡ Some g → BlockTyped p (map parameter g.parameters) g.body
  pub returns : (h : Name) (i : Handler) → handler_of p.declarations h ≡ Some i → BlockTyped p (of_return i) i.return_clause.body
  pub clauses : (h op : Name) (i : Handler) (c : Clause) → handler_of p.declarations h ≡ Some i → clause_of op i.clauses ≡ Some c → ClauseTyped p h op i c
  pub entry : (g : Function) × (function_of p.declarations (codes "main") ≡ Some g) × (g.parameters ≡ [])
