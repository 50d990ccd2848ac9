-- The functions that some handle, group or spawn of a script names: what they compute may be suspended, so they need a continuation type.
use Rattle.std.specs.Prelude.{Bool, false, List, [], ◌∷◌, ◌++◌, filter}
use Rattle.s_syntax.specs.declared.name.Name.{Name}
use Rattle.s_syntax.specs.declared.script.Clause.{Clause}
use Rattle.s_syntax.specs.declared.script.Definition.{Definition}
use Rattle.s_syntax.specs.declared.script.Definition.TheVariants as definition
use Rattle.s_syntax.specs.declared.script.Declaration.{Declaration}
use Rattle.s_syntax.specs.ExprTree.{ExprTree, Literal, Read, Unary, Run, Call, Do, Handle, Resume, Group, Exprs, NoExprs, MoreExprs, Operands, NoOperands, MoreOperands}
use Rattle.s_syntax.specs.BlockTree.{StatementTree, BlockTree, Evaluate, If, While, Fail, Spawn, Done, ◌⨟◌}
use Rattle.s_check.specs.Scopes.{is_among}

-- the names of the functions that a handle, a group or a spawn begins, in order
abbrev mutual
  pub handled_in_expr : ExprTree → List Name
  handled_in_expr (Literal n) = []
  handled_in_expr (Read x) = []
  handled_in_expr (Unary o e) = handled_in_expr e
  handled_in_expr (Run e ps) = handled_in_expr e ++ handled_in_operands ps
  handled_in_expr (Call f es) = handled_in_exprs es
  handled_in_expr (Do op es) = handled_in_exprs es
  handled_in_expr (Handle f es h ps) = f ∷ (handled_in_exprs es ++ handled_in_exprs ps)
  handled_in_expr (Resume k e ps) = handled_in_expr e ++ handled_in_exprs ps
  handled_in_expr (Group f e) = f ∷ handled_in_expr e

  pub handled_in_exprs : Exprs → List Name
  handled_in_exprs NoExprs = []
  handled_in_exprs (MoreExprs e es) = handled_in_expr e ++ handled_in_exprs es

  pub handled_in_operands : Operands → List Name
  handled_in_operands NoOperands = []
  handled_in_operands (MoreOperands o e ps) = handled_in_expr e ++ handled_in_operands ps

abbrev mutual
  pub handled_in_statement : StatementTree → List Name
  handled_in_statement (Evaluate u e) = handled_in_expr e
  handled_in_statement (If c a b) = handled_in_expr c ++ (handled_in_block a ++ handled_in_block b)
  handled_in_statement (While c b) = handled_in_expr c ++ handled_in_block b
  handled_in_statement Fail = []
  handled_in_statement (Spawn t f) = f ∷ []

  pub handled_in_block : BlockTree → List Name
  handled_in_block Done = []
  handled_in_block (s ⨟ b) = handled_in_statement s ++ handled_in_block b

abbrev pub handled_in_clauses : List Clause → List Name
handled_in_clauses [] = []
handled_in_clauses (c ∷ cs) = handled_in_block c.body ++ handled_in_clauses cs

abbrev pub handled_in_definition : Definition → List Name
handled_in_definition (definition.Effect n) = []
handled_in_definition (definition.Function f) = handled_in_block f.body
handled_in_definition (definition.Handler h) = handled_in_block h.return_clause.body ++ handled_in_clauses h.clauses
handled_in_definition (definition.Slots s) = []

abbrev pub handled_names : List Declaration → List Name
handled_names [] = []
handled_names (d ∷ ds) = handled_in_definition d.definition ++ handled_names ds

abbrev pub is_function_among : List Name → Declaration → Definition → Bool
is_function_among names d (definition.Effect n) = false
is_function_among names d (definition.Function f) = is_among names d.name
is_function_among names d (definition.Handler h) = false
is_function_among names d (definition.Slots s) = false

-- the functions that some handle, group or spawn names, in order of declaration
abbrev pub handled : List Declaration → List Declaration
handled ds = filter (λ (d : Declaration). is_function_among (handled_names ds) d d.definition) ds
