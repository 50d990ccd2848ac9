-- Expressions in their two parts.
use Rattle.std.proofs.Common.{◌≡◌, List, ◌++◌, Option, Bool, true, false, refl, sym}
use Rattle.s_syntax.specs.declared.script.Declaration.{Declaration}
use Rattle.s_syntax.specs.ExprTree.{ExprTree, Literal, Read, Unary, Run, Call, Do, Handle, Resume, Group}
use Rattle.s_check.specs.declared.rule.Rule.{Rule}
use Rattle.s_check.specs.Definitions.{handler_of}
use Rattle.s_check.specs.Least.{least_of}
use Rattle.s_check.specs.Parts.{in_call, in_start, in_rest}
use Rattle.s_check.specs.Rules.{for_handler, for_resumed, in_expr, in_exprs, in_operands}
use Rattle.s_check.specs.Scopes.{Scope, type_in}
use Rattle.s_check.proofs.Least.{least_append}

-- an expression's rules are those of its start and then those of its rest
pub in_both : (ds : List Declaration) (bs : Scope) (whole : Bool) (e : ExprTree) (least : Option Rule) → least_of (least_of least (in_start ds bs whole e)) (in_rest ds bs e) ≡ least_of least (in_expr ds bs whole e)
in_both ds bs whole (Literal n) least = refl
in_both ds bs whole (Read x) least = refl
in_both ds bs whole (Unary o e) least = refl
in_both ds bs whole (Run e ps) least = sym (least_append least (in_expr ds bs false e) (in_operands ds bs ps))
in_both ds bs whole (Call f es) least = refl
in_both ds bs whole (Do op es) least = refl
in_both ds bs whole (Handle f es h ps) least = sym (least_append least (in_call ds bs f es) (for_handler ds bs (handler_of ds h) ps ++ in_exprs ds bs true ps))
in_both ds bs whole (Resume k e ps) least = sym (least_append least (in_expr ds bs false e) (for_resumed ds bs (type_in bs k) ps ++ in_exprs ds bs true ps))
in_both ds bs whole (Group f e) least = refl
