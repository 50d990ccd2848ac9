-- What is done next in an activation: a term is E[r] in one way. Finding r takes no step.
use Rattle.std.specs.Prelude.{Bool, false, List, [], ◌∷◌, Option, Some, None, if◌then◌else◌}
use Rattle.std.specs.Str.{bytes_eq}
use Rattle.s_syntax.specs.declared.name.Name.{Name}
use Rattle.s_syntax.specs.declared.number.Number.{Number}
use Rattle.s_syntax.specs.declared.script.VariableType.{VariableType}
use Rattle.s_syntax.specs.declared.script.VariableType.TheVariants.{Int, Resumption, Coroutine}
use Rattle.s_syntax.specs.declared.operators.UnaryOperator.{UnaryOperator}
use Rattle.s_syntax.specs.declared.operators.Connective.{Connective}
use Rattle.s_syntax.specs.declared.operators.BinaryOperator.{BinaryOperator}
use Rattle.s_syntax.specs.declared.operators.BinaryOperator.TheVariants.{Connects}
use Rattle.s_syntax.specs.ExprTree.{ExprTree, Literal, Read, Unary, Run, Call, Do, Handle, Resume, Group, Exprs, NoExprs, MoreExprs, Operands, NoOperands, MoreOperands}
use Rattle.s_syntax.specs.declared.statement.Use.{Use as ValueUse}
use Rattle.s_syntax.specs.declared.statement.Use.TheVariants as use_for
use Rattle.s_syntax.specs.BlockTree.{Evaluate, If, While, Fail, Spawn, BlockTree, Done, ◌⨟◌}
use Rattle.s_check.specs.Rules.{count}
use Rattle.s_meaning.specs.Terms.{Value, Row, ε, ◌▹◌, Variable, Head, Calling, Doing, Handling, Resuming, TailResuming, TailCalling, Grouping, Use, ToStore, ToPrint, ToDrop, ToReturn, ToChoose, ToTurn, ToPut, ToTake, ToSwitch, Work, UnderUnary, LeftOf, RightOf, Among, Within, Hole, Gives, Finds, Runs}

-- r: what one step does, where all that it needs are values
pub data Redex : Type 0 where
  -- n; x
  Constant : (n : Number) → Redex
  Lookup : (x : Name) → Redex
  -- op v; v op w
  OnUnary : UnaryOperator → Value → Redex
  OnBinary : BinaryOperator → (v w : Value) → Redex
  -- v && e, v || e, the left side's value being there, and what comes after this operator
  Decides : Connective → (v : Value) → ExprTree → (more : Operands) → Redex
  -- head(vs)
  Applies : Head → Row → Redex
  -- a statement whose expression has the value v, and the rest of its body
  Uses : Use → (v : Value) → (rest : BlockTree) → Redex
  Fails : Redex
  -- spawn t = f, and the rest of its body
  Spawns : (t f : Name) → (rest : BlockTree) → Redex
  -- the end of a body
  Ends : Redex

-- r, and the pending work around it
pub record Focused : Type 0 where
  pub redex : Redex
  pub work : List Work

abbrev pub at : Redex → List Work → Focused
at r w = record { redex = r; work = w }

-- one list and then another
abbrev pub followed_by : Exprs → Exprs → Exprs
followed_by NoExprs bs = bs
followed_by (MoreExprs e es) bs = MoreExprs e (followed_by es bs)

-- the rest of a run of operators around its left side
abbrev pub left_of : Operands → List Work → List Work
left_of NoOperands w = w
left_of (MoreOperands o e more) w = LeftOf o e more ∷ w

abbrev mutual
  -- in an expression: its first part that isn't a value
  pub in_expr : ExprTree → List Work → Focused
  in_expr (Literal n) w = at (Constant n) w
  in_expr (Read x) w = at (Lookup x) w
  in_expr (Unary o e) w = in_expr e (UnderUnary o ∷ w)
  in_expr (Run e more) w = in_expr e (left_of more w)
  in_expr (Call f es) w = in_args (Calling f) ε es w
  in_expr (Do op es) w = in_args (Doing op) ε es w
  in_expr (Handle f es h bs) w = in_both (Handling f (count es) h) es bs w (in_args (Handling f (count es) h) ε bs w)
  in_expr (Resume k e bs) w = in_expr e (Among (Resuming k) ε bs ∷ w)
  in_expr (Group f e) w = in_expr e (Among (Grouping f) ε NoExprs ∷ w)

  -- in a list of arguments, those before it being values
  pub in_args : Head → Row → Exprs → List Work → Focused
  in_args head vs NoExprs w = at (Applies head vs) w
  in_args head vs (MoreExprs e es) w = in_expr e (Among head vs es ∷ w)

  -- in two lists of arguments, `second` being the second one's
  pub in_both : Head → Exprs → Exprs → List Work → (second : Focused) → Focused
  in_both head NoExprs bs w second = second
  in_both head (MoreExprs e es) bs w second = in_expr e (Among head ε (followed_by es bs) ∷ w)

-- ## Tail resumes

-- the variable of a name
abbrev pub variable_of : Name → List Variable → Option Variable
variable_of x [] = None
variable_of x (v ∷ vs) = if bytes_eq v.name x then Some v else variable_of x vs

abbrev pub is_resumption_of : Name → VariableType → Bool
is_resumption_of h Int = false
is_resumption_of h (Resumption g) = bytes_eq g h
is_resumption_of h Coroutine = false

abbrev pub is_own : Option Name → Option Variable → Bool
is_own None v = false
is_own (Some h) None = false
is_own (Some h) (Some v) = is_resumption_of h v.ty

-- `return e`: where e is a call of a function, it is a tail call; where e is `resume k(..) with (..)`, k is of type res h, and this is a
-- clause or the return clause of h, it is a tail resume
abbrev pub in_return : List Variable → Option Name → ExprTree → BlockTree → Focused
in_return vars owner (Resume k e bs) rest =
    if is_own owner (variable_of k vars) then in_expr e (Among (TailResuming k) ε bs ∷ []) else in_expr e (Among (Resuming k) ε bs ∷ Within ToReturn rest ∷ [])
in_return vars owner (Call f es) rest = in_args (TailCalling f) ε es []
in_return vars owner e rest = in_expr e (Within ToReturn rest ∷ [])

-- an expression, and then what its value is used for
abbrev pub in_evaluate : List Variable → Option Name → ValueUse → ExprTree → BlockTree → Focused
in_evaluate vars owner (use_for.Let x) e rest = in_expr e (Within (ToStore x) rest ∷ [])
in_evaluate vars owner (use_for.Assign x) e rest = in_expr e (Within (ToStore x) rest ∷ [])
in_evaluate vars owner use_for.Print e rest = in_expr e (Within ToPrint rest ∷ [])
in_evaluate vars owner use_for.Return e rest = in_return vars owner e rest
in_evaluate vars owner use_for.Drop e rest = in_expr e (Within ToDrop rest ∷ [])
in_evaluate vars owner (use_for.Store s k) e rest = in_expr e (Within (ToPut s k) rest ∷ [])
in_evaluate vars owner (use_for.Take k s) e rest = in_expr e (Within (ToTake k s) rest ∷ [])
in_evaluate vars owner (use_for.Switch x u t) e rest = in_expr e (Within (ToSwitch x u t) rest ∷ [])

-- in the rest of a body
abbrev pub in_block : List Variable → Option Name → BlockTree → Focused
in_block vars owner Done = at Ends []
in_block vars owner (Evaluate u e ⨟ rest) = in_evaluate vars owner u e rest
in_block vars owner (If e b d ⨟ rest) = in_expr e (Within (ToChoose b d) rest ∷ [])
in_block vars owner (While e b ⨟ rest) = in_expr e (Within (ToTurn e b) rest ∷ [])
in_block vars owner (Fail ⨟ rest) = at Fails []
in_block vars owner (Spawn t f ⨟ rest) = at (Spawns t f rest) []

-- a value in the pending work around it
abbrev pub in_work : Value → List Work → Option Focused
in_work v [] = None
in_work v (UnderUnary o ∷ w) = Some (at (OnUnary o v) w)
in_work v (LeftOf (Connects c) e more ∷ w) = Some (at (Decides c v e more) w)
in_work v (LeftOf o e more ∷ w) = Some (in_expr e (RightOf v o more ∷ w))
in_work v (RightOf u o more ∷ w) = Some (at (OnBinary o u v) (left_of more w))
in_work v (Among head vs es ∷ w) = Some (in_args head (vs ▹ v) es w)
in_work v (Within u rest ∷ w) = Some (at (Uses u v rest) [])

abbrev pub focus : List Variable → Option Name → Hole → List Work → Option Focused
focus vars owner (Gives v) w = in_work v w
focus vars owner (Finds e) w = Some (in_expr e w)
focus vars owner (Runs b) w = Some (in_block vars owner b)
