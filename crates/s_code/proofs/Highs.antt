-- Temporaries are no more than a body is large.
use Rattle.std.proofs.Common.{ℕ, ◌+◌, ◌≤◌, length, arith}
use Rattle.s_syntax.specs.declared.statement.Use.{Use}
use Rattle.s_syntax.specs.declared.statement.Use.TheVariants as use_for
use Rattle.s_syntax.specs.ExprTree.{ExprTree, Literal, Read, Unary, Run, Call, Do, Handle, Resume, Group, Exprs, NoExprs, MoreExprs, Operands, NoOperands, MoreOperands}
use Rattle.s_syntax.specs.BlockTree.{StatementTree, BlockTree, Evaluate, If, While, Fail, Spawn, Done, ◌⨟◌}
use Rattle.s_check.specs.Rules.{count}
use Rattle.s_check.specs.Scopes.{lets_by}
use Rattle.s_check.specs.Size.{expr_size, exprs_size, operands_size, use_size, statement_size, block_size}
use Rattle.s_code.specs.Temporaries.{high, high_args, high_aside, high_operands, room_of, high_statement, high_block}
use Rattle.s_code.proofs.Sizes.{some_size, count_within}

mutual
  pub high_within : (t : ℕ) (e : ExprTree) → high t e ≤ t + expr_size e
  high_within t (Literal n) = omega arith
  high_within t (Read x) = omega arith
  high_within t (Unary o e) = let q = high_within t e in omega (arith, q)
  high_within t (Run e ps) = let q = high_within t e in let r = operands_high t ps in omega (arith, q, r)
  high_within t (Call f es) = let q = args_high t es in omega (arith, q)
  high_within t (Do op es) = let q = args_high t es in omega (arith, q)
  high_within t (Handle f es h ps) = let q = aside_high t es in let r = args_high (t + count es) ps in let n = count_within es in omega (arith, q, r, n)
  high_within t (Resume k e ps) = let q = high_within t e in let r = args_high (t + 1) ps in let s = some_size e in omega (arith, q, r, s)
  high_within t (Group f e) = let q = high_within t e in omega (arith, q)

  args_high : (t : ℕ) (es : Exprs) → high_args t es ≤ t + exprs_size es
  args_high t NoExprs = omega arith
  args_high t (MoreExprs e es) = let q = high_within t e in let r = args_high t es in omega (arith, q, r)

  aside_high : (t : ℕ) (es : Exprs) → high_aside t es ≤ t + exprs_size es
  aside_high t NoExprs = omega arith
  aside_high t (MoreExprs e es) = let q = high_within t e in let r = aside_high (t + 1) es in let s = some_size e in omega (arith, q, r, s)

  operands_high : (t : ℕ) (ps : Operands) → high_operands t ps ≤ t + operands_size ps
  operands_high t NoOperands = omega arith
  operands_high t (MoreOperands o e ps) = let q = high_within t e in let r = operands_high t ps in omega (arith, q, r)

-- a use takes one temporary at most
pub room_few : (u : Use) → room_of u ≤ 1
room_few (use_for.Let x) = omega arith
room_few (use_for.Assign x) = omega arith
room_few use_for.Print = omega arith
room_few use_for.Return = omega arith
room_few use_for.Drop = omega arith
room_few (use_for.Store s k) = omega arith
room_few (use_for.Take k s) = omega arith
room_few (use_for.Switch x u t) = omega arith

mutual
  statement_high : (s : StatementTree) → high_statement s ≤ statement_size s
  statement_high (Evaluate u e) = let q = high_within 0 e in let r = room_few u in omega (arith, q, r)
  statement_high (If c a b) = let q = high_within 0 c in let r = block_high a in let s = block_high b in omega (arith, q, r, s)
  statement_high (While c b) = let q = high_within 0 c in let r = block_high b in omega (arith, q, r)
  statement_high Fail = omega arith
  statement_high (Spawn t f) = omega arith

  pub block_high : (b : BlockTree) → high_block b ≤ block_size b
  block_high Done = omega arith
  block_high (s ⨟ b) = let q = statement_high s in let r = block_high b in omega (arith, q, r)

-- a use binds one name at most, and a switch two
pub lets_by_few : (u : Use) → length (lets_by u) ≤ 1 + use_size u
lets_by_few (use_for.Let x) = omega arith
lets_by_few (use_for.Assign x) = omega arith
lets_by_few use_for.Print = omega arith
lets_by_few use_for.Return = omega arith
lets_by_few use_for.Drop = omega arith
lets_by_few (use_for.Store s k) = omega arith
lets_by_few (use_for.Take k s) = omega arith
lets_by_few (use_for.Switch x u t) = omega arith
