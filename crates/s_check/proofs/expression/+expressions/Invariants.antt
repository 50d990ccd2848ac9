use Rattle.std.proofs.Common.{◌≡◌, ◌+◌, ◌*◌, drop}
use Rattle.s_syntax.specs.ExprTree.{exprs, operands, height, height_exprs, height_operands}
use Rattle.s_syntax.specs.ExprOf.{expr_of}
use Rattle.s_check.specs.Least.{least_of}
use Rattle.s_check.specs.Rules.{in_exprs, in_operands}
use Rattle.s_check.proofs.expression.+expressions.Given as goal

abbrev pub decreases-in_expr : goal.decreases-in_expr
decreases-in_expr l = height l.expr.now * 5 + 4

abbrev pub decreases-in_start : goal.decreases-in_start
decreases-in_start l = height (expr_of l.node.now) * 5 + 3

abbrev pub decreases-in_rest : goal.decreases-in_rest
decreases-in_rest l = height (expr_of l.node.now) * 5 + 3

abbrev pub decreases-in_call : goal.decreases-in_call
decreases-in_call l = height_exprs (exprs l.arguments.now) * 5 + 2

abbrev pub decreases-in_exprs : goal.decreases-in_exprs
decreases-in_exprs l = height_exprs (exprs l.items.now) * 5 + 1

abbrev pub decreases-in_operands : goal.decreases-in_operands
decreases-in_operands l = height_operands (operands l.rest.now) * 5 + 1

abbrev pub invariant-in_exprs-loop-item : goal.invariant-in_exprs-loop-item
invariant-in_exprs-loop-item l = least_of l.least (in_exprs l.declarations l.scope l.whole (exprs (drop l.item-index l.items))) ≡ least_of l.fn.least (in_exprs l.declarations l.scope l.whole (exprs l.items))

abbrev pub invariant-in_operands-loop-item : goal.invariant-in_operands-loop-item
invariant-in_operands-loop-item l = least_of l.least (in_operands l.declarations l.scope (operands (drop l.item-index l.rest))) ≡ least_of l.fn.least (in_operands l.declarations l.scope (operands l.rest))
