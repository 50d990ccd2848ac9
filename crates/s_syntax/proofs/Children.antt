-- What stands in a list is less high, or less deep, than what the list is of. Walks over trees end by this.
use Rattle.std.proofs.Common.{ℕ, zero, suc, ◌+◌, ◌<◌, ◌≤◌, List, [], ◌∷◌, length, get_or, arith}
use Rattle.s_syntax.specs.declared.operators.BinaryOperator.{BinaryOperator}
use Rattle.s_syntax.specs.declared.statement.Statement.{Statement}
use Rattle.s_syntax.specs.ExprTree.{ExprTree, exprs, operands, height, height_exprs, height_operands}
use Rattle.s_syntax.specs.BlockTree.{depth, depth_within}
use Rattle.s_syntax.specs.BlockOf.{statement_of, block_of}

-- an expression of a list
pub height_at : (es : List ExprTree) (i : ℕ) (d : ExprTree) → i < length es → height (get_or es i d) + 1 ≤ height_exprs (exprs es)
height_at [] i d h = absurd (omega arith)
height_at (e ∷ es) zero d h = omega arith
height_at (e ∷ es) (suc i) d h = omega (arith, height_at es i d (omega arith))

-- an operand of a list
pub operand_at : (ps : List (BinaryOperator × ExprTree)) (i : ℕ) (d : BinaryOperator × ExprTree) → i < length ps → height (get_or ps i d).1 + 1 ≤ height_operands (operands ps)
operand_at [] i d h = absurd (omega arith)
operand_at (p ∷ ps) zero d h = omega arith
operand_at (p ∷ ps) (suc i) d h = omega (arith, operand_at ps i d (omega arith))

-- a statement of a block
pub depth_at : (ss : List Statement) (i : ℕ) (d : Statement) → i < length ss → depth_within (statement_of (get_or ss i d)) ≤ depth (block_of ss)
depth_at [] i d h = absurd (omega arith)
depth_at (s ∷ ss) zero d h = omega arith
depth_at (s ∷ ss) (suc i) d h = omega (arith, depth_at ss i d (omega arith))
