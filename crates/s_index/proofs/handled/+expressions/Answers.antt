use Rattle.std.proofs.Common.{◌<◌, length, ap, arith}
use Rattle.s_syntax.specs.declared.operators.BinaryOperator.{BinaryOperator}
use Rattle.s_syntax.specs.ExprTree.{ExprTree, height}
use Rattle.s_syntax.proofs.Children.{height_at, operand_at}
use Rattle.s_index.proofs.handled.+expressions.Goals as goal

pub push_in_exprs-push_in_expr-requires : goal.push_in_exprs-push_in_expr-requires
push_in_exprs-push_in_expr-requires t c =
    let h : c.loop-item.item-index < length c.args.items.now = c.loop-item-test.true in
    let q = height_at c.args.items.now c.loop-item.item-index c.item-item.result h in
    let e = ap height c.item-item.is in
    (omega (arith, q, e, c.decreases), tt)

pub push_in_operands-push_in_expr-requires : goal.push_in_operands-push_in_expr-requires
push_in_operands-push_in_expr-requires t c =
    let h : c.loop-item.item-index < length c.args.rest.now = c.loop-item-test.true in
    let q = operand_at c.args.rest.now c.loop-item.item-index c.item-item.result h in
    let e = ap (λ (p : BinaryOperator × ExprTree). height p.1) c.item-item.is in
    (omega (arith, q, e, c.decreases), tt)
