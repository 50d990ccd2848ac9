-- How many temporaries a body takes.
use Rattle.std.specs.Prelude.{ℕ, ◌+◌, max}
use Rattle.s_syntax.specs.ExprTree.{ExprTree, Literal, Read, Unary, Run, Call, Do, Handle, Resume, Group, Exprs, NoExprs, MoreExprs, Operands, NoOperands, MoreOperands}
use Rattle.s_syntax.specs.declared.statement.Use.{Use}
use Rattle.s_syntax.specs.declared.statement.Use.TheVariants as use_for
use Rattle.s_syntax.specs.BlockTree.{StatementTree, BlockTree, Evaluate, If, While, Fail, Spawn, Done, ◌⨟◌}
use Rattle.s_check.specs.Rules.{count}

-- the first temporary that is never used, where t are in use
abbrev mutual
  pub high : ℕ → ExprTree → ℕ
  high t (Literal n) = t
  high t (Read x) = t
  high t (Unary o e) = high t e
  high t (Run e ps) = max (high t e) (high_operands t ps)
  high t (Call f es) = high_args t es
  high t (Do op es) = high_args t es
  high t (Handle f es h ps) = max (high_aside t es) (high_args (t + count es) ps)
  high t (Resume k e ps) = max (high t e) (high_args (t + 1) ps)
  high t (Group f e) = high t e

  pub high_args : ℕ → Exprs → ℕ
  high_args t NoExprs = t
  high_args t (MoreExprs e es) = max (high t e) (high_args t es)

  pub high_aside : ℕ → Exprs → ℕ
  high_aside t NoExprs = t
  high_aside t (MoreExprs e es) = max (high t e) (high_aside (t + 1) es)

  pub high_operands : ℕ → Operands → ℕ
  high_operands t NoOperands = t
  high_operands t (MoreOperands o e ps) = max (high t e) (high_operands t ps)

-- how many temporaries the use of a value takes, which is behind those of its expression: the first ones again
abbrev pub room_of : Use → ℕ
room_of (use_for.Let x) = 0
room_of (use_for.Assign x) = 0
room_of use_for.Print = 0
room_of use_for.Return = 0
room_of use_for.Drop = 0
room_of (use_for.Store s k) = 1
room_of (use_for.Take k s) = 1
room_of (use_for.Switch x u t) = 0

abbrev mutual
  pub high_statement : StatementTree → ℕ
  high_statement (Evaluate u e) = max (high 0 e) (room_of u)
  high_statement (If c a b) = max (high 0 c) (max (high_block a) (high_block b))
  high_statement (While c b) = max (high 0 c) (high_block b)
  high_statement Fail = 0
  high_statement (Spawn t f) = 0

  pub high_block : BlockTree → ℕ
  high_block Done = 0
  high_block (s ⨟ b) = max (high_statement s) (high_block b)
