use Rattle.std.proofs.Common.{◌≡◌, ◌+◌, ◌*◌, ◌++◌, drop}
use Rattle.s_syntax.specs.ExprTree.{exprs, operands, height, height_exprs, height_operands}
use Rattle.s_syntax.specs.ExprOf.{expr_of}
use Rattle.s_index.specs.Handled.{handled_in_exprs, handled_in_operands}
use Rattle.s_index.specs.Views.{names_of}
use Rattle.s_index.proofs.handled.+expressions.Given as goal

abbrev pub decreases-push_in_expr : goal.decreases-push_in_expr
decreases-push_in_expr l = height l.expr.now * 4 + 3

abbrev pub decreases-push_in_node : goal.decreases-push_in_node
decreases-push_in_node l = height (expr_of l.node.now) * 4 + 2

abbrev pub decreases-push_in_exprs : goal.decreases-push_in_exprs
decreases-push_in_exprs l = height_exprs (exprs l.items.now) * 4 + 1

abbrev pub decreases-push_in_operands : goal.decreases-push_in_operands
decreases-push_in_operands l = height_operands (operands l.rest.now) * 4 + 1

abbrev pub invariant-push_in_exprs-loop-item : goal.invariant-push_in_exprs-loop-item
invariant-push_in_exprs-loop-item l = names_of l.names.items ++ handled_in_exprs (exprs (drop l.item-index l.items)) ≡ names_of l.fn.names.items ++ handled_in_exprs (exprs l.items)

abbrev pub invariant-push_in_operands-loop-item : goal.invariant-push_in_operands-loop-item
invariant-push_in_operands-loop-item l = names_of l.names.items ++ handled_in_operands (operands (drop l.item-index l.rest)) ≡ names_of l.fn.names.items ++ handled_in_operands (operands l.rest)
