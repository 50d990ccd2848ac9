-- Each item of a repetition takes a token.
use Rattle.std.proofs.Common.{◌≡◌, ℕ, ◌<◌, true, false, List, [], ◌∷◌, length, refl, arith}
use Rattle.s_syntax.specs.ExprTree.{ExprTree}
use Rattle.s_syntax.specs.declared.operators.BinaryOperator.{BinaryOperator}
use Rattle.s_syntax.specs.declared.token.Kind.TheVariants as kind
use Rattle.s_syntax.specs.declared.token.Token.{Token}
use Rattle.s_grammar.specs.Grammar.{Grammar, Choice}
use Rattle.s_grammar.specs.Kinds.{is, Kinds}
use Rattle.s_grammar.specs.Operators.{product_operators, sum_operators, comparisons, and_operators, operator_of, or_operators}
use Rattle.s_grammar.specs.Reading.{inside, Reading, in_turn, one, Got}
use Rattle.s_grammar.specs.Reads.{led, expr, parenthesized_expr, listed, products, sums, compares, ands}
use Rattle.s_grammar.specs.Syntax.{Led, Expr, ParenthesizedExpr, Listed, UnaryBy, RunOf, OnceOf}
use Rattle.s_grammar.proofs.Enclosures.{between_laws}
use Rattle.s_grammar.proofs.Ends.{ends_expr, begins_expr, ends_primary, ends_product, ends_sum, ends_compare, ends_and}
use Rattle.s_grammar.proofs.ExprLaws.{expr_laws, parenthesized_laws, Arguments, list_of_expr, unary_laws}
use Rattle.s_grammar.proofs.ForParts.{led_laws, parentheses, inside_of, run_laws, once_laws, operand_laws}
use Rattle.s_grammar.proofs.KindSets.{any_kind}
use Rattle.s_grammar.proofs.ReadingLaws.{Laws}
use Rattle.s_grammar.proofs.Repetitions.{Shrinks, shrinks}
use Rattle.s_expr.specs.Levels.{arguments, graded, operators, operand}
use Rattle.s_expr.specs.declared.level.Level.{Level}
use Rattle.s_expr.specs.declared.level.Level.TheVariants as level

module _ (bytes : List ℕ) where
  -- a comma and an expression
  pub comma_shrinks : (n : ℕ) → Shrinks (led kind.Comma (expr bytes n))
  comma_shrinks n = shrinks n 0 _ ends_expr (λ m. Led kind.Comma (Expr bytes m)) (led kind.Comma (expr bytes n)) (led_laws kind.Comma (omega arith) refl refl refl (expr_laws bytes n))

  -- arguments in parentheses
  arguments_laws : (n : ℕ) → Laws n 1 false (is kind.OpenParenthesis) any_kind (Arguments bytes) (arguments bytes n)
  unfolding Arguments arguments
  arguments_laws n = between_laws n 0 true begins_expr (is kind.CloseParenthesis) kind.OpenParenthesis kind.CloseParenthesis parentheses (omega arith) (λ j. Listed (Expr bytes j)) (inside (λ j. listed (expr bytes j)) n) (inside_of (λ j. listed (expr bytes j)) (λ j. list_of_expr bytes (expr_laws bytes j)) n) refl

  -- operands
  abbrev Unaries : ℕ → Grammar ExprTree
  Unaries m = Choice (UnaryBy bytes (ParenthesizedExpr bytes m) (Arguments bytes m))

  -- the level of operands
  unary_level : (n : ℕ) → Laws n 0 false begins_expr ends_primary Unaries (graded bytes n level.Unary)
  unfolding graded
  unary_level n = unary_laws bytes n (ParenthesizedExpr bytes) (Arguments bytes) (parenthesized_expr bytes n) (arguments bytes n) (parenthesized_laws bytes n) (arguments_laws n)

  -- products
  product_level : (n : ℕ) → Laws n 0 false begins_expr ends_product (λ m. RunOf product_operators (Unaries m)) (graded bytes n level.Product)
  unfolding graded products
  product_level n = run_laws product_operators ends_product kind.Star refl refl refl refl refl (unary_laws bytes n (ParenthesizedExpr bytes) (Arguments bytes) (parenthesized_expr bytes n) (arguments bytes n) (parenthesized_laws bytes n) (arguments_laws n))

  -- sums
  sum_level : (n : ℕ) → Laws n 0 false begins_expr ends_sum (λ m. RunOf sum_operators (RunOf product_operators (Unaries m))) (graded bytes n level.Sum)
  unfolding graded sums
  sum_level n = run_laws sum_operators ends_sum kind.Plus refl refl refl refl refl (product_level n)

  -- comparisons
  compare_level : (n : ℕ) → Laws n 0 false begins_expr ends_compare (λ m. OnceOf comparisons (RunOf sum_operators (RunOf product_operators (Unaries m)))) (graded bytes n level.Comparison)
  unfolding graded compares
  compare_level n = once_laws comparisons ends_compare kind.Less refl refl refl refl refl (sum_level n)

  -- conjunctions
  and_level : (n : ℕ) → Laws n 0 false begins_expr ends_and (λ m. RunOf and_operators (OnceOf comparisons (RunOf sum_operators (RunOf product_operators (Unaries m))))) (graded bytes n level.And)
  unfolding graded ands
  and_level n = run_laws and_operators ends_and kind.And refl refl refl refl refl (compare_level n)

  -- what no tokens spell
  solid_shrinks : {A : Type 0} {n : ℕ} {first stops : Kinds} {G : ℕ → Grammar A} {r : Reading A} → Laws n 0 false first stops G r → Shrinks r
  solid_shrinks {n = n} {first = first} {stops = stops} {G = G} {r = r} l = shrinks n 0 first stops G r l

  -- the level of operands has no operators
  never_got : (r : Reading ExprTree) (ts : List Token) (x : BinaryOperator × ExprTree) (rest : List Token) → in_turn (one (operators level.Unary) operator_of) r ts ≡ Got x rest → length rest < length ts
  never_got r [] x rest e = cc (e)
  never_got r (t ∷ ts) x rest e = cc (e)

  -- an operator and an operand
  pub operand_shrinks : (n : ℕ) (l : Level) → Shrinks (operand bytes n l)
  unfolding operand Shrinks
  operand_shrinks n level.Or = solid_shrinks (operand_laws or_operators kind.Or refl refl (and_level n))
  operand_shrinks n level.And = solid_shrinks (operand_laws and_operators kind.And refl refl (compare_level n))
  operand_shrinks n level.Comparison = solid_shrinks (operand_laws comparisons kind.Less refl refl (sum_level n))
  operand_shrinks n level.Sum = solid_shrinks (operand_laws sum_operators kind.Plus refl refl (product_level n))
  operand_shrinks n level.Product = solid_shrinks (operand_laws product_operators kind.Star refl refl (unary_level n))
  operand_shrinks n level.Unary = never_got (graded bytes n level.Unary)
