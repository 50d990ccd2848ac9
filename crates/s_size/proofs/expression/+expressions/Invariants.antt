use Rattle.std.proofs.Common.{◌≡◌, ◌+◌, ◌*◌, drop}
use Rattle.s_syntax.specs.ExprTree.{exprs, operands, height, height_exprs, height_operands}
use Rattle.s_syntax.specs.ExprOf.{expr_of}
use Rattle.s_check.specs.Size.{exprs_size, operands_size}
use Rattle.s_size.specs.Left.{left_after}
use Rattle.s_size.proofs.expression.+expressions.Given as goal

abbrev pub decreases-after_expr : goal.decreases-after_expr
decreases-after_expr l = height l.expr.now * 4 + 3

abbrev pub decreases-after_node : goal.decreases-after_node
decreases-after_node l = height (expr_of l.node.now) * 4 + 2

abbrev pub decreases-after_exprs : goal.decreases-after_exprs
decreases-after_exprs l = height_exprs (exprs l.items.now) * 4 + 1

abbrev pub decreases-after_operands : goal.decreases-after_operands
decreases-after_operands l = height_operands (operands l.rest.now) * 4 + 1

abbrev pub invariant-after_exprs-loop-item : goal.invariant-after_exprs-loop-item
invariant-after_exprs-loop-item l = left_after (exprs_size (exprs (drop l.item-index l.items))) l.left ≡ left_after (exprs_size (exprs l.items)) l.fn.budget

abbrev pub invariant-after_operands-loop-item : goal.invariant-after_operands-loop-item
invariant-after_operands-loop-item l = left_after (operands_size (operands (drop l.item-index l.rest))) l.left ≡ left_after (operands_size (operands l.rest)) l.fn.budget
