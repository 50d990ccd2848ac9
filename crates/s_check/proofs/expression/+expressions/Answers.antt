use Rattle.std.proofs.Common.{◌<◌, length, false, ap, refl, arith}
use Rattle.s_syntax.specs.declared.operators.BinaryOperator.{BinaryOperator}
use Rattle.s_syntax.specs.ExprTree.{ExprTree, exprs, operands, height}
use Rattle.s_check.specs.Rules.{in_expr, in_exprs, in_operands}
use Rattle.s_check.proofs.Least.{one_more}
use Rattle.s_syntax.proofs.Children.{height_at, operand_at}
use Rattle.s_check.proofs.expression.+expressions.Goals as goal

pub in_exprs-in_expr-least-requires : goal.in_exprs-in_expr-least-requires
in_exprs-in_expr-least-requires t c =
    let h : c.loop-item.item-index < length c.args.items.now = c.loop-item-test.true in
    let q = height_at c.args.items.now c.loop-item.item-index c.item-item.result h in
    let e = ap height c.item-item.is in
    (omega (arith, q, e, c.decreases), tt)

pub in_exprs-loop-item-preserved : goal.in_exprs-loop-item-preserved
in_exprs-loop-item-preserved t c =
    one_more (in_expr c.args.declarations.now c.args.scope.now c.args.whole) (λ es. in_exprs c.args.declarations.now c.args.scope.now c.args.whole (exprs es)) (λ e es. refl)
    c.args.items.now c.loop-item.item-index c.item-item.result c.loop-item.least _ _ c.loop-item-test.true c.item-item.is c.loop-item.invariant c.in_expr-least.ensures.value

pub in_operands-in_expr-least-requires : goal.in_operands-in_expr-least-requires
in_operands-in_expr-least-requires t c =
    let h : c.loop-item.item-index < length c.args.rest.now = c.loop-item-test.true in
    let q = operand_at c.args.rest.now c.loop-item.item-index c.item-item.result h in
    let e = ap (λ (p : BinaryOperator × ExprTree). height p.1) c.item-item.is in
    (omega (arith, q, e, c.decreases), tt)

pub in_operands-loop-item-preserved : goal.in_operands-loop-item-preserved
in_operands-loop-item-preserved t c =
    one_more (λ (p : BinaryOperator × ExprTree). in_expr c.args.declarations.now c.args.scope.now false p.1) (λ ps. in_operands c.args.declarations.now c.args.scope.now (operands ps)) (λ p ps. refl)
    c.args.rest.now c.loop-item.item-index c.item-item.result c.loop-item.least _ _ c.loop-item-test.true c.item-item.is c.loop-item.invariant c.in_expr-least.ensures.value
