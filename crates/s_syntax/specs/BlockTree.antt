-- Blocks as trees. An `if` without `else` has no statements there.
use Rattle.std.specs.Prelude.{ℕ, ◌+◌, max}
use Rattle.s_syntax.specs.declared.name.Name.{Name}
use Rattle.s_syntax.specs.declared.statement.Use.{Use}
use Rattle.s_syntax.specs.ExprTree.{ExprTree}

infixr 50 ◌⨟◌
mutual
  pub data StatementTree : Type 0 where
    -- an expression, and what its value is used for
    Evaluate : (u : Use) → (e : ExprTree) → StatementTree
    If : (c : ExprTree) → (a b : BlockTree) → StatementTree
    While : (c : ExprTree) → (b : BlockTree) → StatementTree
    Fail : StatementTree
    -- spawn t = f
    Spawn : (t : Name) → (f : Name) → StatementTree

  pub data BlockTree : Type 0 where
    Done : BlockTree
    -- a statement, and those behind it
    ◌⨟◌ : StatementTree → BlockTree → BlockTree

-- how deep blocks stand in one another
abbrev mutual
  pub depth_within : StatementTree → ℕ
  depth_within (Evaluate u e) = 0
  depth_within (If c a b) = max (depth a + 1) (depth b + 1)
  depth_within (While c b) = depth b + 1
  depth_within Fail = 0
  depth_within (Spawn t f) = 0

  pub depth : BlockTree → ℕ
  depth Done = 0
  depth (s ⨟ b) = max (depth_within s) (depth b)
