use Rattle.std.proofs.Common.{◌+◌, ◌*◌, ◌≤◌, drop}
use Rattle.w_syntax.specs.Code.{Code}
use Rattle.s_syntax.specs.ExprTree.{exprs, operands, height, height_exprs, height_operands}
use Rattle.s_syntax.specs.ExprOf.{expr_of}
use Rattle.s_check.specs.Size.{exprs_size, operands_size}
use Rattle.s_code.specs.Expressions as code
use Rattle.s_code.specs.Writes.{Writes}
use Rattle.s_index.specs.Limits.{number_limit}
use Rattle.s_code.proofs.expression.+expressions.Given as goal

abbrev pub decreases-write_expr : goal.decreases-write_expr
decreases-write_expr l = height l.expression.now * 8 + 7

abbrev pub decreases-write_node : goal.decreases-write_node
decreases-write_node l = height (expr_of l.node.now) * 8 + 6

abbrev pub decreases-write_args : goal.decreases-write_args
decreases-write_args l = height_exprs (exprs l.items.now) * 8 + 4

abbrev pub decreases-write_aside : goal.decreases-write_aside
decreases-write_aside l = height_exprs (exprs l.items.now) * 8 + 4

abbrev pub decreases-write_one_aside : goal.decreases-write_one_aside
decreases-write_one_aside l = height l.item.now * 8 + 8

abbrev pub decreases-write_operands : goal.decreases-write_operands
decreases-write_operands l = height_operands (operands l.rest.now) * 8 + 4

abbrev pub decreases-write_operand : goal.decreases-write_operand
decreases-write_operand l = height l.right.now * 8 + 9

abbrev pub decreases-write_connective : goal.decreases-write_connective
decreases-write_connective l = height l.right.now * 8 + 8

abbrev pub invariant-write_args-loop-item : goal.invariant-write_args-loop-item
invariant-write_args-loop-item l = record {
  writes : (c : Code) → Writes l.fn.out.items (code.args l.program l.layout l.used (exprs l.items) c) l.out.items (code.args l.program l.layout l.used (exprs (drop l.item-index l.items)) c);
  room : l.layout.temporaries + l.used + exprs_size (exprs (drop l.item-index l.items)) ≤ number_limit;
}

abbrev pub invariant-write_aside-loop-item : goal.invariant-write_aside-loop-item
invariant-write_aside-loop-item l = record {
  writes : (c : Code) → Writes l.fn.out.items (code.set_aside l.program l.layout l.fn.used (exprs l.items) c) l.out.items (code.set_aside l.program l.layout l.next (exprs (drop l.item-index l.items)) c);
  room : l.layout.temporaries + l.next + exprs_size (exprs (drop l.item-index l.items)) ≤ number_limit;
}

abbrev pub invariant-write_operands-loop-item : goal.invariant-write_operands-loop-item
invariant-write_operands-loop-item l = record {
  writes : (c : Code) → Writes l.fn.out.items (code.operands l.program l.layout l.used (operands l.rest) c) l.out.items (code.operands l.program l.layout l.used (operands (drop l.item-index l.rest)) c);
  room : l.layout.temporaries + l.used + operands_size (operands (drop l.item-index l.rest)) ≤ number_limit;
}
