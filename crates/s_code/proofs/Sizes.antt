-- How large the parts of expressions are.
use Rattle.std.proofs.Common.{◌≡◌, ℕ, suc, ◌+◌, ◌<◌, ◌≤◌, List, [], ◌∷◌, length, drop, get_or, refl, ap, arith}
use Rattle.s_syntax.specs.declared.operators.BinaryOperator.{BinaryOperator}
use Rattle.s_syntax.specs.declared.statement.Statement.{Statement}
use Rattle.s_syntax.specs.ExprTree.{ExprTree, Literal, Read, Unary, Run, Call, Do, Handle, Resume, Group, Exprs, NoExprs, MoreExprs, exprs, operands}
use Rattle.s_syntax.specs.BlockOf.{statement_of, block_of}
use Rattle.s_check.specs.Rules.{count}
use Rattle.s_check.specs.Size.{expr_size, exprs_size, operands_size, statement_size, block_size}
use Rattle.lists.proofs.Lists.{cell}

-- an expression has a size
pub some_size : (e : ExprTree) → 1 ≤ expr_size e
some_size (Literal n) = omega arith
some_size (Read x) = omega arith
some_size (Unary o e) = omega arith
some_size (Run e ps) = let q : 1 ≤ expr_size e = some_size e in omega (arith, q)
some_size (Call f es) = omega arith
some_size (Do op es) = omega arith
some_size (Handle f es h ps) = omega arith
some_size (Resume k e ps) = omega arith
some_size (Group f e) = omega arith

-- and arguments are no more than theirs
pub count_within : (es : Exprs) → count es ≤ exprs_size es
count_within NoExprs = omega arith
count_within (MoreExprs e es) = let q : count es ≤ exprs_size es = count_within es in let s = some_size e in omega (arith, q, s)

pub count_exprs : (es : List ExprTree) → count (exprs es) ≡ length es
count_exprs [] = refl
count_exprs (e ∷ es) = ap suc (count_exprs es)

pub length_within : (es : List ExprTree) → length es ≤ exprs_size (exprs es)
length_within es = let q = count_within (exprs es) in let e = count_exprs es in omega (arith, q, e)

-- ## An item of a list, and those behind it

pub item_size : (es : List ExprTree) (i : ℕ) (e : ExprTree) → i < length es → e ≡ get_or es i e → exprs_size (exprs (drop i es)) ≡ expr_size e + exprs_size (exprs (drop (i + 1) es))
item_size es i e h is = ap (λ (l : List ExprTree). exprs_size (exprs l)) (cell es i e h is)

pub operand_size : (ps : List (BinaryOperator × ExprTree)) (i : ℕ) (p : BinaryOperator × ExprTree) → i < length ps → p ≡ get_or ps i p
    → operands_size (operands (drop i ps)) ≡ 1 + expr_size p.1 + operands_size (operands (drop (i + 1) ps))
operand_size ps i p h is = ap (λ (l : List (BinaryOperator × ExprTree)). operands_size (operands l)) (cell ps i p h is)

pub statement_room : (ss : List Statement) (i : ℕ) (s : Statement) → i < length ss → s ≡ get_or ss i s
    → block_size (block_of (drop i ss)) ≡ statement_size (statement_of s) + block_size (block_of (drop (i + 1) ss))
statement_room ss i s h is = ap (λ (l : List Statement). block_size (block_of l)) (cell ss i s h is)
