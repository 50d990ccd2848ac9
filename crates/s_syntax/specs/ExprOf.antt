-- The tree of a node.
use Rattle.s_syntax.specs.declared.expr.Node.{Node}
use Rattle.s_syntax.specs.declared.expr.Node.TheVariants as node
use Rattle.s_syntax.specs.ExprTree.{ExprTree, Literal, Read, Unary, Run, Call, Do, Handle, Resume, Group, exprs, operands}

abbrev pub expr_of : Node → ExprTree
expr_of (node.Literal n) = Literal n
expr_of (node.Read x) = Read x
expr_of (node.Unary o e) = Unary o e.value
expr_of (node.Run e ps) = Run e.value (operands ps.items)
expr_of (node.Call f es) = Call f (exprs es.items)
expr_of (node.Do op es) = Do op (exprs es.items)
expr_of (node.Handle f es h ps) = Handle f (exprs es.items) h (exprs ps.items)
expr_of (node.Resume k e ps) = Resume k e.value (exprs ps.items)
expr_of (node.Group f e) = Group f e.value
