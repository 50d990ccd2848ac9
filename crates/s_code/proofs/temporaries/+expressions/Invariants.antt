use Rattle.std.proofs.Common.{◌≡◌, ◌+◌, ◌*◌, ◌≤◌, drop}
use Rattle.std.specs.Prelude.{max}
use Rattle.s_syntax.specs.ExprTree.{exprs, operands, height, height_exprs, height_operands}
use Rattle.s_syntax.specs.ExprOf.{expr_of}
use Rattle.s_check.specs.Size.{exprs_size, operands_size}
use Rattle.s_code.specs.Temporaries.{high_args, high_aside, high_operands}
use Rattle.s_index.specs.Limits.{number_limit}
use Rattle.s_code.proofs.temporaries.+expressions.Given as goal

abbrev pub decreases-high : goal.decreases-high
decreases-high l = height l.expr.now * 4 + 3

abbrev pub decreases-high_node : goal.decreases-high_node
decreases-high_node l = height (expr_of l.node.now) * 4 + 2

abbrev pub decreases-high_args : goal.decreases-high_args
decreases-high_args l = height_exprs (exprs l.items.now) * 4 + 1

abbrev pub decreases-high_aside : goal.decreases-high_aside
decreases-high_aside l = height_exprs (exprs l.items.now) * 4 + 1

abbrev pub decreases-high_operands : goal.decreases-high_operands
decreases-high_operands l = height_operands (operands l.rest.now) * 4 + 1

abbrev pub invariant-high_args-loop-item : goal.invariant-high_args-loop-item
invariant-high_args-loop-item l = record {
  most : max l.most (high_args l.used (exprs (drop l.item-index l.items))) ≡ high_args l.used (exprs l.items);
  room : l.used + exprs_size (exprs (drop l.item-index l.items)) ≤ number_limit;
}

abbrev pub invariant-high_aside-loop-item : goal.invariant-high_aside-loop-item
invariant-high_aside-loop-item l = record {
  most : max l.most (high_aside l.next (exprs (drop l.item-index l.items))) ≡ high_aside l.fn.used (exprs l.items);
  room : l.next + exprs_size (exprs (drop l.item-index l.items)) ≤ number_limit;
}

abbrev pub invariant-high_operands-loop-item : goal.invariant-high_operands-loop-item
invariant-high_operands-loop-item l = record {
  most : max l.most (high_operands l.used (operands (drop l.item-index l.rest))) ≡ high_operands l.used (operands l.rest);
  room : l.used + operands_size (operands (drop l.item-index l.rest)) ≤ number_limit;
}
