-- Each expression of a node is less high than its tree.
use Rattle.std.specs.Prelude.{◌≤◌, ◌+◌, max, List, [], ◌∷◌}
use Rattle.std.proofs.Common.{arith}
use denote.Param.Weighed.{most}
use Rattle.s_syntax.specs.declared.operators.BinaryOperator.{BinaryOperator}
use Rattle.s_syntax.specs.declared.expr.Node.{Node}
use Rattle.s_syntax.specs.declared.expr.Node.TheVariants as node
use Rattle.s_syntax.specs.declared.expr.Expr.{Expr}
use Rattle.s_syntax.specs.declared.expr.Expr.TheDeep.{deep-Node}
use Rattle.s_syntax.specs.declared.expr.Expr.TheShapes.{weighed-Node-Run-1-at-2}
use Rattle.s_syntax.specs.ExprTree.{ExprTree, exprs, operands, height, height_exprs, height_operands}
use Rattle.s_syntax.specs.ExprOf.{expr_of}

exprs_fall : (es : List ExprTree) → most (λ e. height e + 1) es ≤ height_exprs (exprs es)
exprs_fall [] = omega arith
exprs_fall (e ∷ es) = omega (arith, exprs_fall es)

operands_fall : (ps : List (BinaryOperator × Expr)) → most (weighed-Node-Run-1-at-2.weight Expr (λ e. height e + 1)) ps ≤ height_operands (operands ps)
operands_fall [] = omega arith
operands_fall (p ∷ ps) = omega (arith, operands_fall ps)

pub node_falls : (n : Node) → max (deep-Node n) 0 ≤ height (expr_of n)
node_falls (node.Literal n) = omega arith
node_falls (node.Read x) = omega arith
node_falls (node.Unary o e) = omega arith
node_falls (node.Run e ps) = omega (arith, operands_fall ps.items)
node_falls (node.Call f es) = omega (arith, exprs_fall es.items)
node_falls (node.Do op es) = omega (arith, exprs_fall es.items)
node_falls (node.Handle f es h ps) = omega (arith, exprs_fall es.items, exprs_fall ps.items)
node_falls (node.Resume k e ps) = omega (arith, exprs_fall ps.items)
node_falls (node.Group f e) = omega arith
