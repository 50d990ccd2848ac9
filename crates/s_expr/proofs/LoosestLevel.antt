-- The loosest level is an expression.
use Rattle.std.proofs.Common.{◌≡◌, ℕ, zero, suc, List, refl}
use Rattle.s_grammar.specs.Reads.{expr, parenthesized_expr}
use Rattle.s_expr.specs.Levels.{graded, arguments}
use Rattle.s_expr.specs.declared.level.Level.TheVariants as level

module _ (bytes : List ℕ) where
  -- an expression is one of the loosest level
  pub expr_is : (n : ℕ) → graded bytes n level.Or ≡ expr bytes n
  unfolding graded parenthesized_expr arguments expr
  expr_is zero = refl
  expr_is (suc n) = refl
