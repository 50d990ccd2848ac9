-- Reading of expressions by level, and of the parts that have a function of their own.
use Rattle.std.specs.Prelude.{ℕ, List}
use Rattle.s_syntax.specs.declared.operators.BinaryOperator.{BinaryOperator}
use Rattle.s_syntax.specs.ExprTree.{ExprTree}
use Rattle.s_grammar.specs.Kinds.{Kinds, no_kind}
use Rattle.s_grammar.specs.Reading.{Reading, choice, inside, many, in_turn, one}
use Rattle.s_grammar.specs.Operators.{or_operators, and_operators, comparisons, sum_operators, product_operators, operator_of}
use Rattle.s_grammar.specs.Reads.{in_parentheses, listed, unary_by, products, sums, compares, ands, expr_by, expr, parenthesized_expr}
use Rattle.s_expr.specs.declared.level.Level.{Level}
use Rattle.s_expr.specs.declared.level.Level.TheVariants as level

-- the level that binds tighter by one, the operators of a level, and how tightly it binds, counted from the tightest
abbrev pub below : Level → Level
below level.Or = level.And
below level.And = level.Comparison
below level.Comparison = level.Sum
below level.Sum = level.Product
below level.Product = level.Unary
below level.Unary = level.Unary

abbrev pub operators : Level → Kinds
operators level.Or = or_operators
operators level.And = and_operators
operators level.Comparison = comparisons
operators level.Sum = sum_operators
operators level.Product = product_operators
operators level.Unary = no_kind

abbrev pub rank : Level → ℕ
rank level.Or = 5
rank level.And = 4
rank level.Comparison = 3
rank level.Sum = 2
rank level.Product = 1
rank level.Unary = 0

module _ (bytes : List ℕ) where
  -- arguments in parentheses
  unfoldable pub arguments : ℕ → Reading (List ExprTree)
  arguments n = in_parentheses (inside (λ j. listed (expr bytes j)) n)

  -- an expression of a level
  unfoldable pub graded : ℕ → Level → Reading ExprTree
  graded n level.Unary = choice (unary_by bytes (parenthesized_expr bytes n) (arguments n))
  graded n level.Product = products bytes (parenthesized_expr bytes n) (arguments n)
  graded n level.Sum = sums bytes (parenthesized_expr bytes n) (arguments n)
  graded n level.Comparison = compares bytes (parenthesized_expr bytes n) (arguments n)
  graded n level.And = ands bytes (parenthesized_expr bytes n) (arguments n)
  graded n level.Or = expr_by bytes (parenthesized_expr bytes n) (arguments n)

  -- an operator of a level with the operand behind it, and any number of them
  unfoldable pub operand : ℕ → Level → Reading (BinaryOperator × ExprTree)
  operand n l = in_turn (one (operators l) operator_of) (graded n (below l))

  unfoldable pub operands : ℕ → Level → Reading (List (BinaryOperator × ExprTree))
  operands n l = many (operators l) (operand n l)
