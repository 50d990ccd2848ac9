-- Statements and expressions in two parts each.
use Rattle.std.specs.Prelude.{Bool, true, false, List, [], ◌++◌}
use Rattle.s_syntax.specs.declared.name.Name.{Name}
use Rattle.s_syntax.specs.declared.script.Declaration.{Declaration}
use Rattle.s_syntax.specs.ExprTree.{ExprTree, Literal, Read, Unary, Run, Call, Do, Handle, Resume, Group, Exprs}
use Rattle.s_syntax.specs.BlockTree.{StatementTree, Evaluate, If, While, Fail, Spawn}
use Rattle.s_check.specs.declared.rule.Rule.{Rule}
use Rattle.s_check.specs.Rules.{for_function, for_effect, for_handler, for_resumed, for_grouped, for_spawned, in_name, in_expr, in_exprs, in_operands, in_use, in_block}
use Rattle.s_check.specs.Definitions.{function_of, handler_of, effect_of}
use Rattle.s_check.specs.Scopes.{Scope, type_in}

-- ## A statement: what stands outside its blocks, and its blocks

-- what breaks rules outside its blocks
abbrev pub in_front : List Declaration → Scope → StatementTree → List Rule
in_front ds bs (Evaluate u e) = in_use ds bs u ++ in_expr ds bs false e
in_front ds bs (If c a b) = in_expr ds bs false c
in_front ds bs (While c b) = in_expr ds bs false c
in_front ds bs Fail = []
in_front ds bs (Spawn t f) = for_spawned (function_of ds f)

-- and in them
abbrev pub in_blocks : List Declaration → Scope → StatementTree → List Rule
in_blocks ds bs (Evaluate u e) = []
in_blocks ds bs (If c a b) = in_block ds bs a ++ in_block ds bs b
in_blocks ds bs (While c b) = in_block ds bs b
in_blocks ds bs Fail = []
in_blocks ds bs (Spawn t f) = []

-- ## An expression: what stands before its further operands and before a `with`, and those

-- a function that is called or handled, and its arguments
abbrev pub in_call : List Declaration → Scope → Name → Exprs → List Rule
in_call ds bs f es = for_function ds bs (function_of ds f) es ++ in_exprs ds bs true es

-- what breaks rules before them
abbrev pub in_start : List Declaration → Scope → Bool → ExprTree → List Rule
in_start ds bs whole (Literal n) = []
in_start ds bs whole (Read x) = in_name whole (type_in bs x)
in_start ds bs whole (Unary o e) = in_expr ds bs false e
in_start ds bs whole (Run e ps) = in_expr ds bs false e
in_start ds bs whole (Call f es) = in_call ds bs f es
in_start ds bs whole (Do op es) = for_effect (effect_of ds op) es ++ in_exprs ds bs false es
in_start ds bs whole (Handle f es h ps) = in_call ds bs f es
in_start ds bs whole (Resume k e ps) = in_expr ds bs false e
in_start ds bs whole (Group f e) = for_grouped (function_of ds f) ++ in_expr ds bs false e

-- and in them
abbrev pub in_rest : List Declaration → Scope → ExprTree → List Rule
in_rest ds bs (Literal n) = []
in_rest ds bs (Read x) = []
in_rest ds bs (Unary o e) = []
in_rest ds bs (Run e ps) = in_operands ds bs ps
in_rest ds bs (Call f es) = []
in_rest ds bs (Do op es) = []
in_rest ds bs (Handle f es h ps) = for_handler ds bs (handler_of ds h) ps ++ in_exprs ds bs true ps
in_rest ds bs (Resume k e ps) = for_resumed ds bs (type_in bs k) ps ++ in_exprs ds bs true ps
in_rest ds bs (Group f e) = []
