-- How a configuration of the module's run stands for one of the script: each activation is a frame, each active handle a frame of the
-- handler's function, inside its loop and the blocks of its clauses, that waits at its resume, and each group a handle in the frame that waits
-- for it.
use Rattle.std.proofs.Common.{◌≡◌, ℕ, zero, suc, ◌+◌, ◌<◌, ◌-◌, ◌≤◌, ◌^◌, true, false, max, ℤ, List, [], ◌∷◌, length, Option, Some, None}
use Rattle.std.specs.Prelude.{slice_get}
use Rattle.w_num.specs.Signed.{signed}
use Rattle.lists.specs.Rows.{Row, ε, ◌▹◌, ◌⧺◌}
use Rattle.w_syntax.specs.Code.{Code, Done, Plain, Block}
use Rattle.w_syntax.specs.declared.instructions.BlockKind.TheVariants as kind
use Rattle.w_syntax.specs.declared.instructions.BlockType.TheVariants as block_type
use Rattle.w_syntax.specs.declared.instructions.Clause.{Clause}
use Rattle.w_syntax.specs.declared.instructions.Clause.TheVariants.{Switch}
use Rattle.w_reduce.specs.Values.{Val, I64, Null, Cont}
use Rattle.w_reduce.specs.Store.{Store, Table, live}
use Rattle.w_reduce.specs.Terms.{rest_of, Label, Frame, Handle, Context, Term, Continuation, fresh_continuation}
use Rattle.s_syntax.specs.declared.name.Name.{Name}
use Rattle.s_syntax.specs.declared.number.Number.{Number as WrittenNumber}
use Rattle.s_syntax.specs.declared.script.VariableType.TheVariants.{Int, Resumption, Coroutine}
use Rattle.s_syntax.specs.declared.script.Handler.{Handler}
use Rattle.s_syntax.specs.declared.script.Slots.{Slots}
use Rattle.s_syntax.specs.declared.script.Declaration.{Declaration}
use Rattle.s_syntax.specs.declared.operators.UnaryOperator.{UnaryOperator}
use Rattle.s_syntax.specs.declared.operators.BinaryOperator.{BinaryOperator}
use Rattle.s_syntax.specs.declared.operators.BinaryOperator.TheVariants.{Connects, Compares, Computes}
use Rattle.s_syntax.specs.declared.operators.Connective.{Connective}
use Rattle.s_syntax.specs.declared.operators.Comparison.{Comparison}
use Rattle.s_syntax.specs.declared.operators.Arithmetic.{Arithmetic}
use Rattle.s_syntax.specs.ExprTree.{ExprTree, Literal, Read, Unary, Run, Call, Do, Handle as HandleExpr, Resume, Group as GroupExpr, Exprs, NoExprs, MoreExprs, Operands, NoOperands, MoreOperands}
use Rattle.s_syntax.specs.declared.statement.Use.TheVariants as use_for
use Rattle.s_syntax.specs.BlockTree.{StatementTree, BlockTree, Evaluate, If, While, Fail, Spawn, Done as NoStatements, ◌⨟◌}
use Rattle.s_check.specs.Definitions.{handler_of, slots_of}
use Rattle.s_check.specs.Rules.{count}
use Rattle.s_check.specs.Scopes.{is_among}
use Rattle.s_index.specs.Handled.{handled_names}
use Rattle.s_index.specs.Numbers.{function_index, handler_index, tag_index, group_tag_index, table_index}
use Rattle.s_code.specs.Instructions.{call, return_call, local_get, local_set, suspend, branch, branch_if, is_zero, leave, dropped, if_zero, truth, unary_operator, comparison, arithmetic}
use Rattle.s_code.specs.Layouts.{Local, Owner, Layout, local_of, local_number, handler_of_name, is_own, owner_parameters}
use Rattle.s_code.specs.Temporaries.{high_block}
use Rattle.s_code.specs.Expressions.{reload, begin, wake, handler_index_of, expr, args, set_aside, operands, set_parameters}
use Rattle.s_code.specs.Slots.{store_code, take_code}
use Rattle.s_code.specs.Coroutines.{group_code, switch_code}
use Rattle.s_code.specs.Statements.{printer, statement, block, ending}
use Rattle.s_code.specs.Handlers.{Placed, clause_code, labels, return_code, handler_body}
use Rattle.s_code.specs.Places.{return_layout, placed_clauses, handler_temporaries, high_clauses}
use Rattle.s_meaning.specs.Numbers.{decided}
use Rattle.s_meaning.specs.Terms as script
use Rattle.s_meaning.specs.Terms.{Value, Number, Reference, Variable, Calling, Doing, Handling, Resuming, TailResuming, TailCalling, Grouping, Use, ToStore, ToPrint, ToDrop, ToReturn, ToChoose, ToTurn, ToPut, ToTake, ToSwitch, Work, UnderUnary, LeftOf, RightOf, Among, Within, Activation, Handle as Handled, Group, Gives, Finds, Runs, captured, switched, spawned, Contents, Configuration}
use Rattle.s_meaning.specs.Focus.{followed_by, variable_of}
use Rattle.s_meaning.specs.Steps.{contents_of}
use Rattle.s_valid.specs.Beginning.{first_store}
use Rattle.s_valid.proofs.LayoutTypes.{Placed as HasLocal}
use Rattle.s_agrees.proofs.ScriptRows.{Values, no_values, ◌▸◌, ◌⧻◌, many}

-- code in a context
abbrev pub config : Context → Row Val → Code → Term
config e ops c = record { around = e; operands = ops; rest = rest_of c }

-- ## Values. ρ has the address of the continuation of each resumption and coroutine, by its own address.

pub data Same (ρ : List ℕ) : Value → Val → Type 0 where
  number : {z : ℤ} {n : ℕ} → n < 2 ^ 64 → signed 64 n ≡ z → Same ρ (Number z) (I64 n)
  reference : {a b : ℕ} → slice_get ρ a ≡ Some b → Same ρ (Reference a) (Cont b)

pub data Sames (ρ : List ℕ) : Values → Row Val → Type 0 where
  none : Sames ρ no_values ε
  more : {vs : Values} {ws : Row Val} {v : Value} {w : Val} → Sames ρ vs ws → Same ρ v w → Sames ρ (vs ▸ v) (ws ▹ w)

-- ## Locals

abbrev pub Locals : Type 0
Locals = List (Option Val)

-- the local x has the value v
pub record LocalIs (ρ : List ℕ) (L : Locals) (x : ℕ) (v : Value) : Type 0 where
  pub value : Val
  pub is : slice_get L x ≡ Some (Some value)
  pub same : Same ρ v value

-- a variable is in the local of its name, which has its type
pub record InLocal (ρ : List ℕ) (Γ : Layout) (L : Locals) (x : Name) (v : Variable) : Type 0 where
  pub local : Local
  pub is : local_of Γ.names x ≡ Some local
  pub ty : local.ty ≡ v.ty
  pub held : LocalIs ρ L local.number v.value

pub record Holds (ρ : List ℕ) (Γ : Layout) (vars : List Variable) (L : Locals) : Type 0 where
  pub each : (x : Name) (v : Variable) → variable_of x vars ≡ Some v → InLocal ρ Γ L x v

-- the locals from the first one on have these values
pub record Held (ρ : List ℕ) (L : Locals) (vs : List Value) : Type 0 where
  pub each : (i : ℕ) (v : Value) → slice_get vs i ≡ Some v → LocalIs ρ L i v

-- these locals, each below b, have these values
pub data HeldAt (ρ : List ℕ) (L : Locals) (b : ℕ) : Row ℕ → Values → Type 0 where
  held_none : HeldAt ρ L b ε no_values
  held_more : {ns : Row ℕ} {us : Values} {n : ℕ} {v : Value} → HeldAt ρ L b ns us → n < b → LocalIs ρ L n v → HeldAt ρ L b (ns ▹ n) (us ▸ v)

-- each name has a local of its own, below the temporaries
pub record Fine (Γ : Layout) : Type 0 where
  pub apart : (x y : Name) (l k : Local) → local_of Γ.names x ≡ Some l → local_of Γ.names y ≡ Some k → l.number ≡ k.number → x ≡ y
  pub below : (x : Name) (l : Local) → local_of Γ.names x ≡ Some l → l.number < Γ.temporaries

-- the variables of an activation are in the locals of a frame with n temporaries
pub record Active (ρ : List ℕ) (Γ : Layout) (n : ℕ) (L : Locals) (vars : List Variable) : Type 0 where
  pub fine : Fine Γ
  pub room : Γ.temporaries + n ≤ length L
  pub holds : Holds ρ Γ vars L

-- ## Code that has its locals: n temporaries, of which t are in use. What a handle, a group or a spawn names is among the functions that are
-- handled.

mutual
  pub data WellExpr (ds : List Declaration) (n : ℕ) : ℕ → ExprTree → Type 0 where
    literal : {t : ℕ} {k : WrittenNumber} → WellExpr ds n t (Literal k)
    read : {t : ℕ} {x : Name} → WellExpr ds n t (Read x)
    unary : {t : ℕ} {o : UnaryOperator} {e : ExprTree} → WellExpr ds n t e → WellExpr ds n t (Unary o e)
    run : {t : ℕ} {e : ExprTree} {ps : Operands} → WellExpr ds n t e → WellOperands ds n t ps → WellExpr ds n t (Run e ps)
    calls : {t : ℕ} {f : Name} {es : Exprs} → WellArgs ds n t es → WellExpr ds n t (Call f es)
    does : {t : ℕ} {op : Name} {es : Exprs} → WellArgs ds n t es → WellExpr ds n t (Do op es)
    handles : {t : ℕ} {f h : Name} {es bs : Exprs} → is_among (handled_names ds) f ≡ true → WellAsides ds n t es → WellArgs ds n (t + count es) bs
        → WellExpr ds n t (HandleExpr f es h bs)
    resumes : {t : ℕ} {k : Name} {e : ExprTree} {bs : Exprs} → t < n → WellExpr ds n t e → WellArgs ds n (t + 1) bs → WellExpr ds n t (Resume k e bs)
    groups : {t : ℕ} {f : Name} {e : ExprTree} → is_among (handled_names ds) f ≡ true → WellExpr ds n t e → WellExpr ds n t (GroupExpr f e)

  pub data WellArgs (ds : List Declaration) (n : ℕ) : ℕ → Exprs → Type 0 where
    no_args : {t : ℕ} → WellArgs ds n t NoExprs
    arg : {t : ℕ} {e : ExprTree} {es : Exprs} → WellExpr ds n t e → WellArgs ds n t es → WellArgs ds n t (MoreExprs e es)

  -- arguments that are put aside
  pub data WellAsides (ds : List Declaration) (n : ℕ) : ℕ → Exprs → Type 0 where
    no_asides : {t : ℕ} → WellAsides ds n t NoExprs
    aside_arg : {t : ℕ} {e : ExprTree} {es : Exprs} → t < n → WellExpr ds n t e → WellAsides ds n (t + 1) es → WellAsides ds n t (MoreExprs e es)

  pub data WellOperands (ds : List Declaration) (n : ℕ) : ℕ → Operands → Type 0 where
    no_operands : {t : ℕ} → WellOperands ds n t NoOperands
    operand : {t : ℕ} {o : BinaryOperator} {e : ExprTree} {ps : Operands} → WellExpr ds n t e → WellOperands ds n t ps → WellOperands ds n t (MoreOperands o e ps)

mutual
  pub data WellStatement (ds : List Declaration) (Γ : Layout) (n : ℕ) : StatementTree → Type 0 where
    lets : {x : Name} {e : ExprTree} → HasLocal Γ x Int → WellExpr ds n 0 e → WellStatement ds Γ n (Evaluate (use_for.Let x) e)
    assigns : {x : Name} {e : ExprTree} → HasLocal Γ x Int → WellExpr ds n 0 e → WellStatement ds Γ n (Evaluate (use_for.Assign x) e)
    ifs : {e : ExprTree} {a b : BlockTree} → WellExpr ds n 0 e → WellBlock ds Γ n a → WellBlock ds Γ n b → WellStatement ds Γ n (If e a b)
    whiles : {e : ExprTree} {b : BlockTree} → WellExpr ds n 0 e → WellBlock ds Γ n b → WellStatement ds Γ n (While e b)
    print : {e : ExprTree} → WellExpr ds n 0 e → WellStatement ds Γ n (Evaluate use_for.Print e)
    return : {e : ExprTree} → WellExpr ds n 0 e → WellStatement ds Γ n (Evaluate use_for.Return e)
    stores : {s k : Name} {e : ExprTree} {d : Slots} → slots_of ds s ≡ Some d → HasLocal Γ k (Resumption d.handler) → 0 < n → WellExpr ds n 0 e
        → WellStatement ds Γ n (Evaluate (use_for.Store s k) e)
    takes : {s k : Name} {e : ExprTree} {d : Slots} → slots_of ds s ≡ Some d → HasLocal Γ k (Resumption d.handler) → 0 < n → WellExpr ds n 0 e
        → WellStatement ds Γ n (Evaluate (use_for.Take k s) e)
    switches : {x u k : Name} {e : ExprTree} → HasLocal Γ x Int → HasLocal Γ u Coroutine → HasLocal Γ k Coroutine → WellExpr ds n 0 e
        → WellStatement ds Γ n (Evaluate (use_for.Switch x u k) e)
    spawns : {k f : Name} → HasLocal Γ k Coroutine → is_among (handled_names ds) f ≡ true → WellStatement ds Γ n (Spawn k f)
    fail : WellStatement ds Γ n Fail
    drop : {e : ExprTree} → WellExpr ds n 0 e → WellStatement ds Γ n (Evaluate use_for.Drop e)

  pub data WellBlock (ds : List Declaration) (Γ : Layout) (n : ℕ) : BlockTree → Type 0 where
    done : WellBlock ds Γ n NoStatements
    next : {s : StatementTree} {b : BlockTree} → WellStatement ds Γ n s → WellBlock ds Γ n b → WellBlock ds Γ n (s ⨟ b)

-- ## Labels

-- e is d labels on f
pub data Deep (f : Context) : ℕ → Context → Type 0 where
  here : Deep f zero f
  label : {d m : ℕ} {e : Context} {below : Row Val} {again rest : Code} → Deep f d e → Deep f (suc d) (Label below m again rest ∷ e)

-- one turn of a while, and its loop
abbrev pub while_turn : List Declaration → Layout → ℕ → ExprTree → BlockTree → Code
while_turn ds Γ D x b = expr ds Γ 0 x (Plain is_zero (Plain (branch_if 1) (block ds Γ (D + 2) b (Plain (branch 0) Done))))

abbrev pub while_loop : List Declaration → Layout → ℕ → ExprTree → BlockTree → Code
while_loop ds Γ D x b = Block kind.Loop block_type.Empty (while_turn ds Γ D x b) Done

-- In f, and in the labels e on it, the code c does the rest b of a body. D labels lie inside the handler's loop, of which D0 are around f.
pub data Rest (ds : List Declaration) (Γ : Layout) (n D0 : ℕ) (f : Context) : ℕ → BlockTree → Code → Context → Type 0 where
  ends : Rest ds Γ n D0 f D0 NoStatements ending f
  does : {D : ℕ} {s : StatementTree} {b : BlockTree} {c : Code} {e : Context} → WellStatement ds Γ n s → Rest ds Γ n D0 f D b c e
      → Rest ds Γ n D0 f D (s ⨟ b) (statement ds Γ D s c) e
  -- the end of a branch
  leaves : {D m : ℕ} {b : BlockTree} {again rest : Code} {e : Context} → Rest ds Γ n D0 f D b rest e → Rest ds Γ n D0 f (D + 1) b Done (Label ε m again rest ∷ e)
  -- the end of a turn
  turns : {D : ℕ} {x : ExprTree} {b rest : BlockTree} {c : Code} {e : Context} → WellExpr ds n 0 x → WellBlock ds Γ n b → Rest ds Γ n D0 f D rest c e
      → Rest ds Γ n D0 f (D + 2) (While x b ⨟ rest) (Plain (branch 0) Done) (Label ε 0 (while_loop ds Γ D x b) Done ∷ Label ε 0 Done c ∷ e)

-- What the code c does with the value of a statement's expression.
pub data Uses (ds : List Declaration) (Γ : Layout) (n D0 : ℕ) (f : Context) : Use → BlockTree → Code → Context → Type 0 where
  sets : {D : ℕ} {x : Name} {b : BlockTree} {c : Code} {e : Context} → HasLocal Γ x Int → Rest ds Γ n D0 f D b c e
      → Uses ds Γ n D0 f (ToStore x) b (Plain (local_set (local_number Γ x)) c) e
  prints : {D : ℕ} {b : BlockTree} {c : Code} {e : Context} → Rest ds Γ n D0 f D b c e → Uses ds Γ n D0 f ToPrint b (Plain (call printer) c) e
  drops : {D : ℕ} {b : BlockTree} {c : Code} {e : Context} → Rest ds Γ n D0 f D b c e → Uses ds Γ n D0 f ToDrop b (Plain dropped c) e
  returns : {d : ℕ} {b : BlockTree} {c : Code} {e : Context} → Deep f d e → Uses ds Γ n D0 f ToReturn b (Plain leave c) e
  puts : {D : ℕ} {s k : Name} {d : Slots} {b : BlockTree} {c : Code} {e : Context} → slots_of ds s ≡ Some d → HasLocal Γ k (Resumption d.handler) → 0 < n → Rest ds Γ n D0 f D b c e
      → Uses ds Γ n D0 f (ToPut s k) b (store_code ds Γ s k c) e
  takes : {D : ℕ} {s k : Name} {d : Slots} {b : BlockTree} {c : Code} {e : Context} → slots_of ds s ≡ Some d → HasLocal Γ k (Resumption d.handler) → 0 < n → Rest ds Γ n D0 f D b c e
      → Uses ds Γ n D0 f (ToTake k s) b (take_code ds Γ k s c) e
  switches : {D : ℕ} {x u k : Name} {b : BlockTree} {c : Code} {e : Context} → HasLocal Γ x Int → HasLocal Γ u Coroutine → HasLocal Γ k Coroutine → Rest ds Γ n D0 f D b c e
      → Uses ds Γ n D0 f (ToSwitch x u k) b (switch_code ds Γ x u k c) e
  chooses : {D : ℕ} {x y b : BlockTree} {c : Code} {e : Context} → WellBlock ds Γ n x → WellBlock ds Γ n y → Rest ds Γ n D0 f D b c e
      → Uses ds Γ n D0 f (ToChoose x y) b (if_zero (block ds Γ (D + 1) y Done) (block ds Γ (D + 1) x Done) c) e
  turns : {D : ℕ} {x : ExprTree} {b rest : BlockTree} {c : Code} {e : Context} → WellExpr ds n 0 x → WellBlock ds Γ n b → Rest ds Γ n D0 f D rest c e
      → Uses ds Γ n D0 f (ToTurn x b) rest (Plain is_zero (Plain (branch_if 1) (block ds Γ (D + 2) b (Plain (branch 0) Done))))
      (Label ε 0 (while_loop ds Γ D x b) Done ∷ Label ε 0 Done c ∷ e)

-- ## Heads of arguments, where all are there

-- these locals put on the stack
abbrev pub gets : Row ℕ → Code → Code
gets ε c = c
gets (ns ▹ n) c = gets ns (Plain (local_get n) c)

-- a handle, whose first arguments lie in these locals
abbrev pub handle_code : List Declaration → Name → Name → Row ℕ → Code → Code
handle_code ds f h ns c = gets ns (begin ds f (Plain (call (handler_index ds h)) c))

-- a resume, whose number lies in this local
abbrev pub resume_code : List Declaration → Layout → Name → ℕ → Code → Code
resume_code ds Γ k y c = Plain (local_get y) (wake Γ k (Plain (call (handler_index_of ds (handler_of_name Γ k))) c))

abbrev pub tail_code : Layout → ℕ → Name → ℕ → Code → Code
tail_code Γ D k y c =
    Plain (local_get y) (wake Γ k (Plain (local_set (owner_parameters Γ.owner)) (set_parameters (owner_parameters Γ.owner) (Plain (branch D) c))))

-- what comes behind a first argument that is put aside, and lies in the last of these locals
abbrev pub asides_code : List Declaration → Layout → Name → Name → ℕ → ℕ → Row ℕ → Exprs → Exprs → Code → Code
asides_code ds Γ f h t u ns es bs c =
    set_aside ds Γ (t + 1) es (args ds Γ u bs (gets ns (reload Γ (t + 1) es (begin ds f (Plain (call (handler_index ds h)) c)))))

-- First arguments of a handle, of which those that lie in the locals ns are there: one that is evaluated now, and es. Then come bs, where
-- u temporaries are in use.
pub record Asides (ds : List Declaration) (ρ : List ℕ) (Γ : Layout) (n : ℕ) (L : Locals) (f : Name) (m t u : ℕ) (ns : Row ℕ) (us : Values) (es bs : Exprs) : Type 0 where
  pub free : t < n
  pub firsts : m ≡ many us + suc (count es)
  pub behind : u ≡ t + 1 + count es
  pub handled : is_among (handled_names ds) f ≡ true
  pub asides : WellAsides ds n (t + 1) es
  pub args : WellArgs ds n u bs
  pub held : HeldAt ρ L (Γ.temporaries + t) ns us

-- ## Pending work of an activation: with a value on the stack, the code c in e does what the work does with it. f is the frame's context; t
-- temporaries are in use.

pub data Works (ds : List Declaration) (ρ : List ℕ) (Γ : Layout) (n D0 : ℕ) (f : Context) : ℕ → Locals → List Work → Row Val → Code → Context → Type 0 where
  under : {t : ℕ} {L : Locals} {o : UnaryOperator} {k : List Work} {ops : Row Val} {c : Code} {e : Context} → Works ds ρ Γ n D0 f t L k ops c e
      → Works ds ρ Γ n D0 f t L (UnderUnary o ∷ k) ops (unary_operator o c) e
  left : {t : ℕ} {L : Locals} {o : BinaryOperator} {x : ExprTree} {more : Operands} {k : List Work} {ops : Row Val} {c : Code} {e : Context}
      → WellExpr ds n t x → WellOperands ds n t more → Works ds ρ Γ n D0 f t L k ops c e
      → Works ds ρ Γ n D0 f t L (LeftOf o x more ∷ k) ops (operands ds Γ t (MoreOperands o x more) c) e
  compared : {t : ℕ} {L : Locals} {v : Value} {w : Val} {o : Comparison} {more : Operands} {k : List Work} {ops : Row Val} {c : Code} {e : Context}
      → Same ρ v w → WellOperands ds n t more → Works ds ρ Γ n D0 f t L k ops c e
      → Works ds ρ Γ n D0 f t L (RightOf v (Compares o) more ∷ k) (ops ▹ w) (comparison o (operands ds Γ t more c)) e
  computed : {t : ℕ} {L : Locals} {v : Value} {w : Val} {o : Arithmetic} {more : Operands} {k : List Work} {ops : Row Val} {c : Code} {e : Context}
      → Same ρ v w → WellOperands ds n t more → Works ds ρ Γ n D0 f t L k ops c e
      → Works ds ρ Γ n D0 f t L (RightOf v (Computes o) more ∷ k) (ops ▹ w) (arithmetic o (operands ds Γ t more c)) e
  -- the right side of && or ||, where the left one did not decide
  connected : {t : ℕ} {L : Locals} {z : ℤ} {o : Connective} {more : Operands} {k : List Work} {ops : Row Val} {c : Code} {e : Context}
      → decided o z ≡ false → WellOperands ds n t more → Works ds ρ Γ n D0 f t L k ops c e
      → Works ds ρ Γ n D0 f t L (RightOf (Number z) (Connects o) more ∷ k) ε truth (Label ops 1 Done (operands ds Γ t more c) ∷ e)
  calling : {t : ℕ} {L : Locals} {g : Name} {vs : Values} {ws : Row Val} {es : Exprs} {k : List Work} {ops : Row Val} {c : Code} {e : Context}
      → WellArgs ds n t es → Sames ρ vs ws → Works ds ρ Γ n D0 f t L k ops c e
      → Works ds ρ Γ n D0 f t L (Among (Calling g) vs es ∷ k) (ops ⧺ ws) (args ds Γ t es (Plain (call (function_index ds g)) c)) e
  doing : {t : ℕ} {L : Locals} {op : Name} {vs : Values} {ws : Row Val} {es : Exprs} {k : List Work} {ops : Row Val} {c : Code} {e : Context}
      → WellArgs ds n t es → Sames ρ vs ws → Works ds ρ Γ n D0 f t L k ops c e
      → Works ds ρ Γ n D0 f t L (Among (Doing op) vs es ∷ k) (ops ⧺ ws) (args ds Γ t es (Plain (suspend (tag_index ds op)) c)) e
  -- a first argument of a handle, which is put aside
  handling_first : {t t0 m u : ℕ} {L : Locals} {g h : Name} {us : Values} {es bs : Exprs} {k : List Work} {ops : Row Val} {c : Code} {e : Context} (ns : Row ℕ)
      → t0 ≤ t → Asides ds ρ Γ n L g m t u ns us es bs → Works ds ρ Γ n D0 f t0 L k ops c e
      → Works ds ρ Γ n D0 f t L (Among (Handling g m h) us (followed_by es bs) ∷ k) ops
      (Plain (local_set (Γ.temporaries + t)) (asides_code ds Γ g h t u (ns ▹ (Γ.temporaries + t)) es bs c)) e
  -- and one of the handler's parameters
  handling_second : {t t0 m : ℕ} {L : Locals} {g h : Name} {us vs : Values} {ws : Row Val} {es : Exprs} {k : List Work} {ops : Row Val} {c : Code} {e : Context} (ns : Row ℕ)
      → t0 ≤ t → m ≡ many us → is_among (handled_names ds) g ≡ true → WellArgs ds n t es → HeldAt ρ L (Γ.temporaries + t) ns us → Sames ρ vs ws
      → Works ds ρ Γ n D0 f t0 L k ops c e
      → Works ds ρ Γ n D0 f t L (Among (Handling g m h) (us ⧻ vs) es ∷ k) (ops ⧺ ws) (args ds Γ t es (handle_code ds g h ns c)) e
  -- the number that a resumption gets
  resuming_first : {t : ℕ} {L : Locals} {x : Name} {bs : Exprs} {k : List Work} {ops : Row Val} {c : Code} {e : Context}
      → t < n → WellArgs ds n (t + 1) bs → Works ds ρ Γ n D0 f t L k ops c e
      → Works ds ρ Γ n D0 f t L (Among (Resuming x) no_values bs ∷ k) ops
      (Plain (local_set (Γ.temporaries + t)) (args ds Γ (t + 1) bs (resume_code ds Γ x (Γ.temporaries + t) c))) e
  resuming_second : {t t0 y : ℕ} {L : Locals} {x : Name} {u : Value} {vs : Values} {ws : Row Val} {es : Exprs} {k : List Work} {ops : Row Val} {c : Code} {e : Context}
      → t0 ≤ t → y < Γ.temporaries + t → WellArgs ds n t es → LocalIs ρ L y u → Sames ρ vs ws → Works ds ρ Γ n D0 f t0 L k ops c e
      → Works ds ρ Γ n D0 f t L (Among (Resuming x) ((no_values ▸ u) ⧻ vs) es ∷ k) (ops ⧺ ws) (args ds Γ t es (resume_code ds Γ x y c)) e
  -- the number that the function of a group gets
  grouping : {t : ℕ} {L : Locals} {g : Name} {k : List Work} {ops : Row Val} {c : Code} {e : Context} → is_among (handled_names ds) g ≡ true → Works ds ρ Γ n D0 f t L k ops c e
      → Works ds ρ Γ n D0 f t L (Among (Grouping g) no_values NoExprs ∷ k) ops (group_code ds g c) e
  tail_first : {D d : ℕ} {L : Locals} {x : Name} {bs : Exprs} {e : Context} (c : Code)
      → 0 < n → is_own Γ x ≡ true → WellArgs ds n 1 bs → Deep f d e → D ≡ d + D0
      → Works ds ρ Γ n D0 f 0 L (Among (TailResuming x) no_values bs ∷ []) ε
      (Plain (local_set Γ.temporaries) (args ds Γ 1 bs (tail_code Γ D x Γ.temporaries c))) e
  tail_second : {t D d y : ℕ} {L : Locals} {x : Name} {u : Value} {vs : Values} {ws : Row Val} {es : Exprs} {e : Context} (c : Code)
      → y < Γ.temporaries + t → is_own Γ x ≡ true → WellArgs ds n t es → LocalIs ρ L y u → Sames ρ vs ws → Deep f d e → D ≡ d + D0
      → Works ds ρ Γ n D0 f t L (Among (TailResuming x) ((no_values ▸ u) ⧻ vs) es ∷ []) (ε ⧺ ws) (args ds Γ t es (tail_code Γ D x y c)) e
  tail_calling : {t d : ℕ} {L : Locals} {g : Name} {vs : Values} {ws : Row Val} {es : Exprs} {e : Context} (c : Code) → WellArgs ds n t es → Sames ρ vs ws → Deep f d e
      → Works ds ρ Γ n D0 f t L (Among (TailCalling g) vs es ∷ []) (ε ⧺ ws) (args ds Γ t es (Plain (return_call (function_index ds g)) c)) e
  within : {L : Locals} {u : Use} {b : BlockTree} {c : Code} {e : Context} → Uses ds Γ n D0 f u b c e → Works ds ρ Γ n D0 f 0 L (Within u b ∷ []) ε c e

-- ## Places

-- the labels of the blocks of clauses, the first clause's the innermost
abbrev pub clause_labels : List Declaration → List Placed → Context → Context
clause_labels ds [] e = e
clause_labels ds (p ∷ ps) e = Label ε (suc (length p.clause.arguments)) Done (clause_code ds (length ps) p) ∷ clause_labels ds ps e

-- the code of a handler's function: its loop
abbrev pub loop_code : List Declaration → Name → Handler → Code
loop_code ds h i = handler_body ds (return_layout ds h i) i (placed_clauses ds h i)

-- the index of a handler's function among the module's own: behind that of the host
abbrev pub handler_place : List Declaration → Name → ℕ
handler_place ds h = handler_index ds h - 1

-- a handler's function inside its loop
abbrev pub in_loop : List Declaration → Name → Handler → Locals → Row Val → Code → Context → Context
in_loop ds h i L below c e = Label ε 0 (loop_code ds h i) Done ∷ Label ε 1 Done Done ∷ Frame below 1 (handler_place ds h) L (rest_of c) ∷ e

-- how many temporaries the bodies of a handler take
abbrev pub handler_high : Handler → ℕ
handler_high i = max (high_block i.return_clause.body) (high_clauses i.clauses)

abbrev pub handler_room : List Declaration → Name → Handler → ℕ
handler_room ds h i = handler_temporaries ds h i + handler_high i

-- the handle of a handler, and its function around that
abbrev pub handler_around : List Declaration → Name → Handler → Locals → Row Val → Code → Context → Context
handler_around ds h i L below c e =
    Handle ε (labels ds 0 i.clauses) (return_code ds (return_layout ds h i) (length i.clauses) i) ∷ clause_labels ds (placed_clauses ds h i) (in_loop ds h i L below c e)

-- the clauses' owner in the layouts of a handler
abbrev pub own : Name → Handler → Owner
own h i = record { name = h; parameters = length i.parameters }

-- the frame of an activation: of a function, or of a clause of a handler, which stands in its function's loop, in the blocks of the clauses
-- after it
pub data Base (ds : List Declaration) (Γ : Layout) (L : Locals) (below : Row Val) (c : Code) (e : Context) : Option Name → ℕ → Context → Type 0 where
  function : {place : ℕ} → Γ.owner ≡ None → Base ds Γ L below c e None 0 (Label ε 1 Done Done ∷ Frame below 1 place L (rest_of c) ∷ e)
  clause : {h : Name} {i : Handler} (ps : List Placed) → handler_of ds h ≡ Some i → Γ.owner ≡ Some (own h i) → length ps ≤ 16 → handler_room ds h i ≤ length L
      → Base ds Γ L below c e (Some h) (length ps) (clause_labels ds ps (in_loop ds h i L below c e))

-- the clauses of a group's resume
abbrev pub group_clauses : List Declaration → List Clause
group_clauses ds = Switch (group_tag_index ds) ∷ []

-- With a value at the hole, the code c in e does what the context κ does.
pub data Waits (ds : List Declaration) (ρ : List ℕ) : script.Context → Row Val → Code → Context → Type 0 where
  outside : Waits ds ρ [] ε Done []
  activation : {Γ : Layout} {n D0 t : ℕ} {L : Locals} {vars : List Variable} {owner : Option Name} {work : List Work} {κ : script.Context} {ops below : Row Val} {c c' : Code} {e e' f : Context}
      → Active ρ Γ n L vars → Works ds ρ Γ n D0 f t L work ops c e → Base ds Γ L below c' e' owner D0 f → Waits ds ρ κ below c' e'
      → Waits ds ρ (Activation vars owner work ∷ κ) ops c e
  handle : {h : Name} {i : Handler} {L : Locals} {vs : List Value} {κ : script.Context} {below : Row Val} {c : Code} {e : Context}
      → handler_of ds h ≡ Some i → handler_room ds h i ≤ length L → length vs ≡ length i.parameters → Held ρ L vs → Waits ds ρ κ below c e
      → Waits ds ρ (Handled h vs ∷ κ) ε Done (handler_around ds h i L below c e)
  -- a group stands in the frame that waits for it: it is the handle of its resume
  group : {κ : script.Context} {ops : Row Val} {c : Code} {e : Context} → Waits ds ρ κ ops c e → Waits ds ρ (Group ∷ κ) ε Done (Handle ops (group_clauses ds) c ∷ e)

-- ## Terms and stores

pub data Stands (ds : List Declaration) (ρ : List ℕ) : script.Term → Term → Type 0 where
  gives : {v : Value} {w : Val} {κ : script.Context} {ops : Row Val} {c : Code} {e : Context} → Same ρ v w → Waits ds ρ κ ops c e
      → Stands ds ρ (record { hole = Gives v; around = κ }) (config e (ops ▹ w) c)
  -- a first argument of a handle that lies in the local y, where it is read
  lies : {Γ : Layout} {n D0 t t0 m u y : ℕ} {L : Locals} {vars : List Variable} {owner : Option Name} {g h : Name} {us : Values} {v : Value} {es bs : Exprs} {k : List Work} {κ : script.Context}
      {ops below : Row Val} {c c' : Code} {e e' f : Context} (ns : Row ℕ)
      → Active ρ Γ n L vars → t0 ≤ t → Asides ds ρ Γ n L g m t u ns us es bs → y < Γ.temporaries + t → LocalIs ρ L y v → Works ds ρ Γ n D0 f t0 L k ops c e
      → Base ds Γ L below c' e' owner D0 f → Waits ds ρ κ below c' e'
      → Stands ds ρ (record { hole = Gives v; around = Activation vars owner (Among (Handling g m h) us (followed_by es bs) ∷ k) ∷ κ })
      (config e ops (asides_code ds Γ g h t u (ns ▹ y) es bs c))
  finds : {Γ : Layout} {n D0 t : ℕ} {L : Locals} {vars : List Variable} {owner : Option Name} {x : ExprTree} {work : List Work} {κ : script.Context}
      {ops below : Row Val} {c c' : Code} {e e' f : Context}
      → Active ρ Γ n L vars → WellExpr ds n t x → Works ds ρ Γ n D0 f t L work ops c e → Base ds Γ L below c' e' owner D0 f → Waits ds ρ κ below c' e'
      → Stands ds ρ (record { hole = Finds x; around = Activation vars owner work ∷ κ }) (config e ops (expr ds Γ t x c))
  runs : {Γ : Layout} {n D0 D : ℕ} {L : Locals} {vars : List Variable} {owner : Option Name} {b : BlockTree} {κ : script.Context}
      {below : Row Val} {c c' : Code} {e e' f : Context}
      → Active ρ Γ n L vars → Rest ds Γ n D0 f D b c e → Base ds Γ L below c' e' owner D0 f → Waits ds ρ κ below c' e'
      → Stands ds ρ (record { hole = Runs b; around = Activation vars owner [] ∷ κ }) (config e ε c)

-- a resumption's context, and the continuation that keeps it
pub record ResumptionAs (ds : List Declaration) (ρ : List ℕ) (κ : script.Context) (k : Continuation) : Type 0 where
  pub takes : k.takes ≡ 1
  pub ahead : k.term.rest.ahead ≡ []
  pub waits : Waits ds ρ κ k.term.operands k.term.rest.code k.term.around

-- the code that a coroutine goes on with: its names of the number and of the coroutine are set, the latter from the top
abbrev pub switched_code : Layout → (x u : Name) → Code → Code
switched_code Γ x u c = Plain (local_set (local_number Γ u)) (Plain (local_set (local_number Γ x)) c)

-- a coroutine that was switched from in an activation with these variables, in the context κ, and the continuation that keeps it
pub data SwitchedAs (ds : List Declaration) (ρ : List ℕ) (x u : Name) (b : BlockTree) (vars : List Variable) (owner : Option Name) (κ : script.Context) : Continuation → Type 0 where
  switched_as : {Γ : Layout} {n D0 D : ℕ} {L : Locals} {below : Row Val} {c c' : Code} {e e' f : Context} {k : Continuation}
      → HasLocal Γ x Int → HasLocal Γ u Coroutine → Active ρ Γ n L vars → Rest ds Γ n D0 f D b c e → Base ds Γ L below c' e' owner D0 f → Waits ds ρ κ below c' e'
      → k.takes ≡ 2 → k.term ≡ config e ε (switched_code Γ x u c)
      → SwitchedAs ds ρ x u b vars owner κ k

-- what is kept of the script, and the continuation that keeps it
pub data KeptAs (ds : List Declaration) (ρ : List ℕ) : script.Kept → Continuation → Type 0 where
  number_alone : {κ : script.Context} {k : Continuation} → ResumptionAs ds ρ κ k → KeptAs ds ρ (captured κ) k
  number_and_coroutine : {x u : Name} {b : BlockTree} {vars : List Variable} {owner : Option Name} {κ : script.Context} {k : Continuation} → SwitchedAs ds ρ x u b vars owner κ k
      → KeptAs ds ρ (switched x u b (Activation vars owner [] ∷ κ)) k
  -- one that waits for its first switch
  not_begun : {f : Name} → is_among (handled_names ds) f ≡ true → KeptAs ds ρ (spawned f) (fresh_continuation (function_index ds f) 2)

pub data Entry (ds : List Declaration) (ρ : List ℕ) : Option (Option script.Kept) → Option (Option Continuation) → Type 0 where
  consumed : Entry ds ρ (Some None) (Some None)
  keeps : {r : script.Kept} {k : Continuation} → KeptAs ds ρ r k → Entry ds ρ (Some (Some r)) (Some (Some k))

-- what stands at a place of slots, and in their table
pub data Element (ρ : List ℕ) : Option ℕ → Val → Type 0 where
  is_empty : Element ρ None Null
  is_kept : {a b : ℕ} → slice_get ρ a ≡ Some b → Element ρ (Some a) (Cont b)

pub data Elements (ρ : List ℕ) : List (Option ℕ) → List Val → Type 0 where
  no_elements : Elements ρ [] []
  element : {q : Option ℕ} {w : Val} {ps : List (Option ℕ)} {vs : List Val} → Element ρ q w → Elements ρ ps vs → Elements ρ (q ∷ ps) (w ∷ vs)

-- slots and their table, place by place
pub record SlotsKept (ρ : List ℕ) (d : Slots) (o : Option Contents) (q : Option Table) : Type 0 where
  pub contents : Contents
  pub table : Table
  pub found : o ≡ Some contents
  pub there : q ≡ Some table
  pub many : length table.elements ≡ d.places.value
  pub of_handler : contents.handler ≡ d.handler
  pub elements : Elements ρ contents.places table.elements

-- entry by entry; what is live besides isn't there: continuations that the module makes for itself are consumed at once
pub record Stores (ds : List Declaration) (ρ : List ℕ) (σ : script.Store) (s : Store) : Type 0 where
  pub as_many : length ρ ≡ length σ.contexts
  pub each : (a b : ℕ) → slice_get ρ a ≡ Some b → Entry ds ρ (slice_get σ.contexts a) (slice_get s.conts b)
  pub apart : (a a' b : ℕ) → slice_get ρ a ≡ Some b → slice_get ρ a' ≡ Some b → a ≡ a'
  pub lives : live s ≡ script.full σ.contexts
  pub slots : (x : Name) (d : Slots) → slots_of ds x ≡ Some d → SlotsKept ρ d (contents_of x σ.slots) (slice_get s.tables (table_index ds x))
  -- nothing adds a function
  pub functions : s.functions ≡ (first_store ds).functions

-- a configuration stands for the script's
pub record At (ds : List Declaration) (ρ : List ℕ) (c : Configuration) (s : Store) (t : Term) : Type 0 where
  pub stands : Stands ds ρ c.term t
  pub stores : Stores ds ρ c.store s
