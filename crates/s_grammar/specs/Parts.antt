-- What is made of the parts of a production.
use Rattle.std.specs.Prelude.{List, [], ◌∷◌, Option, Some, None}
use Rattle.s_syntax.specs.declared.token.Token.{Token}
use Rattle.s_syntax.specs.declared.name.Name.{Name}
use Rattle.s_syntax.specs.declared.number.Number.{Number}
use Rattle.s_syntax.specs.declared.operators.BinaryOperator.{BinaryOperator}
use Rattle.s_syntax.specs.declared.script.VariableType.{VariableType}
use Rattle.s_syntax.specs.declared.script.VariableType.TheVariants as variable
use Rattle.s_syntax.specs.declared.script.Parameter.{Parameter}
use Rattle.s_syntax.specs.declared.script.Clause.{Clause}
use Rattle.s_syntax.specs.declared.script.ReturnClause.{ReturnClause}
use Rattle.s_syntax.specs.declared.script.Definition.TheVariants as definition
use Rattle.s_syntax.specs.declared.script.Declaration.{Declaration}
use Rattle.s_syntax.specs.declared.script.Script.{Script}
use Rattle.s_syntax.specs.ExprTree.{ExprTree, Read, Run, Call, Do, Handle, Resume, Group, exprs, operands}
use Rattle.s_syntax.specs.declared.statement.Use.TheVariants as use_for
use Rattle.s_syntax.specs.BlockTree.{StatementTree, BlockTree, Evaluate, If, While, Spawn, Done, ◌⨟◌}

-- ## Pairs and lists

abbrev pub itself : Token → Token
itself t = t

abbrev pub former : {A B : Type 0} → A × B → A
former p = p.0

abbrev pub latter : {A B : Type 0} → A × B → B
latter p = p.1

abbrev pub or_nothing : {A : Type 0} → Option (List A) → List A
or_nothing None = []
or_nothing (Some xs) = xs

abbrev pub to_list : {A : Type 0} → Option A → List A
to_list None = []
to_list (Some x) = x ∷ []

-- ## Expressions

-- operands with operators of one level between them; an operand alone is itself
abbrev pub run_with : ExprTree → List (BinaryOperator × ExprTree) → ExprTree
run_with e [] = e
run_with e (p ∷ ps) = Run e (operands (p ∷ ps))

abbrev pub run_of : ExprTree × List (BinaryOperator × ExprTree) → ExprTree
run_of p = run_with p.0 p.1

-- at most one operator
abbrev pub once_of : ExprTree × Option (BinaryOperator × ExprTree) → ExprTree
once_of p = run_with p.0 (to_list p.1)

-- a name alone, or with arguments behind it
abbrev pub read_or_call : Name × Option (List ExprTree) → ExprTree
read_or_call (x, None) = Read x
read_or_call (x, Some es) = Call x (exprs es)

abbrev pub do_of : Name × List ExprTree → ExprTree
do_of p = Do p.0 (exprs p.1)

abbrev pub handle_of : Name × (List ExprTree × (Name × List ExprTree)) → ExprTree
handle_of p = Handle p.0 (exprs p.1.0) p.1.1.0 (exprs p.1.1.1)

abbrev pub resume_of : Name × (ExprTree × List ExprTree) → ExprTree
resume_of p = Resume p.0 p.1.0 (exprs p.1.1)

abbrev pub group_of : Name × ExprTree → ExprTree
group_of p = Group p.0 p.1

-- ## Statements

abbrev pub let_of : Name × ExprTree → StatementTree
let_of p = Evaluate (use_for.Let p.0) p.1

abbrev pub assign_of : Name × ExprTree → StatementTree
assign_of p = Evaluate (use_for.Assign p.0) p.1

-- a resumption of this name is stored, or taken
abbrev pub store_of : Name × (ExprTree × Name) → StatementTree
store_of p = Evaluate (use_for.Store p.0 p.1.1) p.1.0

abbrev pub take_of : Name × (Name × ExprTree) → StatementTree
take_of p = Evaluate (use_for.Take p.0 p.1.0) p.1.1

-- a coroutine is made, or switched to
abbrev pub spawn_of : Name × Name → StatementTree
spawn_of p = Spawn p.0 p.1

abbrev pub switch_of : Name × (Name × (Name × ExprTree)) → StatementTree
switch_of p = Evaluate (use_for.Switch p.0 p.1.0 p.1.1.0) p.1.1.1

-- without `else` no statements stand there
abbrev pub if_of : ExprTree × (BlockTree × Option BlockTree) → StatementTree
if_of (c, (a, None)) = If c a Done
if_of (c, (a, Some b)) = If c a b

abbrev pub while_of : ExprTree × BlockTree → StatementTree
while_of p = While p.0 p.1

abbrev pub block_tree : List StatementTree → BlockTree
block_tree [] = Done
block_tree (s ∷ ss) = s ⨟ block_tree ss

-- ## Declarations

-- without a type a parameter is a number
abbrev pub type_of : Option VariableType → VariableType
type_of None = variable.Int
type_of (Some t) = t

abbrev pub parameter_of : Name × Option VariableType → Parameter
parameter_of p = record { name = p.0; ty = type_of p.1 }

abbrev pub clause_of : Name × (List Name × (Name × BlockTree)) → Clause
clause_of p = record { effect = p.0; arguments = p.1.0; resumption = p.1.1.0; body = p.1.1.1 }

abbrev pub return_clause_of : Name × BlockTree → ReturnClause
return_clause_of p = record { value = p.0; body = p.1 }

abbrev pub effect_of : Name × Number → Declaration
effect_of p = record { name = p.0; definition = definition.Effect p.1 }

abbrev pub function_of : Name × (List Parameter × BlockTree) → Declaration
function_of p = record { name = p.0; definition = definition.Function (record { parameters = p.1.0; body = p.1.1 }) }

abbrev pub handler_of : Name × (List Parameter × (ReturnClause × List Clause)) → Declaration
handler_of p = record { name = p.0; definition = definition.Handler (record { parameters = p.1.0; return_clause = p.1.1.0; clauses = p.1.1.1 }) }

abbrev pub slots_of : Name × (Name × Number) → Declaration
slots_of p = record { name = p.0; definition = definition.Slots (record { handler = p.1.0; places = p.1.1 }) }

abbrev pub script_of : List Declaration → Script
script_of ds = record { declarations = ds }
