-- Expressions as trees. Parentheses leave nothing in one.
use Rattle.std.specs.Prelude.{ℕ, ◌+◌, max, List, [], ◌∷◌}
use Rattle.s_syntax.specs.declared.name.Name.{Name}
use Rattle.s_syntax.specs.declared.number.Number.{Number}
use Rattle.s_syntax.specs.declared.operators.UnaryOperator.{UnaryOperator}
use Rattle.s_syntax.specs.declared.operators.BinaryOperator.{BinaryOperator}

mutual
  pub data ExprTree : Type 0 where
    Literal : (n : Number) → ExprTree
    Read : (x : Name) → ExprTree
    Unary : UnaryOperator → ExprTree → ExprTree
    -- e op e op e .., operators of one level, which group from the left
    Run : (first : ExprTree) → Operands → ExprTree
    -- f(es)
    Call : (f : Name) → (es : Exprs) → ExprTree
    -- do op(es)
    Do : (op : Name) → (es : Exprs) → ExprTree
    -- handle f(es) with h(ps)
    Handle : (f : Name) → (es : Exprs) → (h : Name) → (ps : Exprs) → ExprTree
    -- resume k(e) with (ps)
    Resume : (k : Name) → (e : ExprTree) → (ps : Exprs) → ExprTree
    -- group f(e)
    Group : (f : Name) → (e : ExprTree) → ExprTree

  pub data Exprs : Type 0 where
    NoExprs : Exprs
    MoreExprs : ExprTree → Exprs → Exprs

  -- operands, each behind its operator
  pub data Operands : Type 0 where
    NoOperands : Operands
    MoreOperands : BinaryOperator → ExprTree → Operands → Operands

-- the expressions of a list, and the operands of one
abbrev pub exprs : List ExprTree → Exprs
exprs [] = NoExprs
exprs (e ∷ es) = MoreExprs e (exprs es)

abbrev pub operands : List (BinaryOperator × ExprTree) → Operands
operands [] = NoOperands
operands (p ∷ ps) = MoreOperands p.0 p.1 (operands ps)

-- how deep expressions stand in one another
abbrev mutual
  pub height : ExprTree → ℕ
  height (Literal n) = 0
  height (Read x) = 0
  height (Unary o e) = height e + 1
  height (Run e ps) = max (height e + 1) (height_operands ps)
  height (Call f es) = height_exprs es
  height (Do op es) = height_exprs es
  height (Handle f es h ps) = max (height_exprs es) (height_exprs ps)
  height (Resume k e ps) = max (height e + 1) (height_exprs ps)
  height (Group f e) = height e + 1

  pub height_exprs : Exprs → ℕ
  height_exprs NoExprs = 0
  height_exprs (MoreExprs e es) = max (height e + 1) (height_exprs es)

  pub height_operands : Operands → ℕ
  height_operands NoOperands = 0
  height_operands (MoreOperands o e ps) = max (height e + 1) (height_operands ps)
