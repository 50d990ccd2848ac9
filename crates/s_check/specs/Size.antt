-- The size of a script, a sum over its tree: 1 for each declaration and each of its parameters, for each clause and each name that it binds,
-- for each statement, and for each literal, value name, operator, call, do, handle, resume and group; but 2 for each spawn and each switch.
use Rattle.std.specs.Prelude.{ℕ, ◌+◌, length, sum_by}
use Rattle.s_syntax.specs.declared.script.Clause.{Clause}
use Rattle.s_syntax.specs.declared.script.Definition.{Definition}
use Rattle.s_syntax.specs.declared.script.Definition.TheVariants as definition
use Rattle.s_syntax.specs.declared.script.Declaration.{Declaration}
use Rattle.s_syntax.specs.declared.script.Script.{Script}
use Rattle.s_syntax.specs.ExprTree.{ExprTree, Literal, Read, Unary, Run, Call, Do, Handle, Resume, Group, Exprs, NoExprs, MoreExprs, Operands, NoOperands, MoreOperands}
use Rattle.s_syntax.specs.declared.statement.Use.{Use}
use Rattle.s_syntax.specs.declared.statement.Use.TheVariants as use_for
use Rattle.s_syntax.specs.BlockTree.{StatementTree, BlockTree, Evaluate, If, While, Fail, Spawn, Done, ◌⨟◌}

abbrev mutual
  pub expr_size : ExprTree → ℕ
  expr_size (Literal n) = 1
  expr_size (Read x) = 1
  expr_size (Unary o e) = 1 + expr_size e
  expr_size (Run e ps) = expr_size e + operands_size ps
  expr_size (Call f es) = 1 + exprs_size es
  expr_size (Do op es) = 1 + exprs_size es
  expr_size (Handle f es h ps) = 1 + exprs_size es + exprs_size ps
  expr_size (Resume k e ps) = 1 + expr_size e + exprs_size ps
  expr_size (Group f e) = 1 + expr_size e

  pub exprs_size : Exprs → ℕ
  exprs_size NoExprs = 0
  exprs_size (MoreExprs e es) = expr_size e + exprs_size es

  -- each with the operator in front of it
  pub operands_size : Operands → ℕ
  operands_size NoOperands = 0
  operands_size (MoreOperands o e ps) = 1 + expr_size e + operands_size ps

-- what a use of a value counts beyond its statement
abbrev pub use_size : Use → ℕ
use_size (use_for.Let x) = 0
use_size (use_for.Assign x) = 0
use_size use_for.Print = 0
use_size use_for.Return = 0
use_size use_for.Drop = 0
use_size (use_for.Store s k) = 0
use_size (use_for.Take k s) = 0
use_size (use_for.Switch x u t) = 1

abbrev mutual
  pub statement_size : StatementTree → ℕ
  statement_size (Evaluate u e) = 1 + use_size u + expr_size e
  statement_size (If c a b) = 1 + expr_size c + block_size a + block_size b
  statement_size (While c b) = 1 + expr_size c + block_size b
  statement_size Fail = 1
  statement_size (Spawn t f) = 2

  pub block_size : BlockTree → ℕ
  block_size Done = 0
  block_size (s ⨟ b) = statement_size s + block_size b

-- the names of its arguments, that of its resumption, and its body
abbrev pub clause_size : Clause → ℕ
clause_size c = 1 + (length c.arguments + 1) + block_size c.body

abbrev pub definition_size : Definition → ℕ
definition_size (definition.Effect n) = 1
definition_size (definition.Slots s) = 1
definition_size (definition.Function f) = 1 + length f.parameters + block_size f.body
definition_size (definition.Handler h) = 1 + length h.parameters + (1 + 1 + block_size h.return_clause.body) + sum_by clause_size h.clauses

abbrev pub Size : Script → ℕ
Size p = sum_by (λ (d : Declaration). definition_size d.definition) p.declarations

-- the greatest size of a script that is checked, and compiled
abbrev pub size_limit : ℕ
size_limit = 50000
