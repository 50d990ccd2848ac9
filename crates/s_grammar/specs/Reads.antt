-- Reading by the grammar of scripts, where n more brackets may be opened.
use Rattle.std.specs.Prelude.{ℕ, zero, suc, List, drop, Option, Some, None, if◌then◌else◌}
use Rattle.s_syntax.specs.declared.token.Kind.{Kind}
use Rattle.s_syntax.specs.declared.token.Kind.TheVariants as kind
use Rattle.s_syntax.specs.declared.token.Token.{Token}
use Rattle.s_syntax.specs.declared.name.Name.{Name}
use Rattle.s_syntax.specs.declared.number.Number.{Number}
use Rattle.s_syntax.specs.declared.operators.UnaryOperator.TheVariants as unary
use Rattle.s_syntax.specs.declared.script.VariableType.{VariableType}
use Rattle.s_syntax.specs.declared.script.VariableType.TheVariants as variable
use Rattle.s_syntax.specs.declared.script.Parameter.{Parameter}
use Rattle.s_syntax.specs.declared.script.Clause.{Clause}
use Rattle.s_syntax.specs.declared.script.ReturnClause.{ReturnClause}
use Rattle.s_syntax.specs.declared.script.Declaration.{Declaration}
use Rattle.s_syntax.specs.declared.script.Script.{Script}
use Rattle.s_syntax.specs.ExprTree.{ExprTree, Literal, Unary}
use Rattle.s_syntax.specs.declared.statement.Use.TheVariants as use_for
use Rattle.s_syntax.specs.BlockTree.{StatementTree, BlockTree, Evaluate, Fail}
use Rattle.s_grammar.specs.Kinds.{Kinds, kind_of, is, other_than}
use Rattle.s_grammar.specs.Reading.{Reading, Refused, Wrong, one, in_turn, image, maybe, cons, many, choice, between, inside}
use Rattle.s_grammar.specs.Texts.{name_of, number_of}
use Rattle.s_grammar.specs.Operators.{or_operators, and_operators, comparisons, sum_operators, product_operators, operator_of}
use Rattle.s_grammar.specs.Parts.{itself, former, latter, or_nothing, run_of, once_of, read_or_call, do_of, handle_of, resume_of, group_of, let_of, assign_of, store_of, take_of, spawn_of, switch_of, if_of, while_of, block_tree, parameter_of, clause_of, return_clause_of, effect_of, function_of, handler_of, slots_of, script_of}

-- ## Parts of productions

abbrev pub key : Kind → Reading Token
key k = one (is k) itself

unfoldable pub led : {A : Type 0} → Kind → Reading A → Reading A
led k r = image latter (in_turn (key k) r)

unfoldable pub ended : {A : Type 0} → Reading A → Kind → Reading A
ended r k = image former (in_turn r (key k))

unfoldable pub listed : {A : Type 0} → Reading A → Reading (List A)
listed r = image or_nothing (maybe (other_than (is kind.CloseParenthesis)) (image cons (in_turn r (many (is kind.Comma) (led kind.Comma r)))))

abbrev pub in_parentheses : {A : Type 0} → Option (Reading A) → Reading A
in_parentheses r = between kind.OpenParenthesis kind.CloseParenthesis r

abbrev pub in_braces : {A : Type 0} → Option (Reading A) → Reading A
in_braces r = between kind.OpenBrace kind.CloseBrace r

unfoldable pub run : Kinds → Reading ExprTree → Reading ExprTree
run ops r = image run_of (in_turn r (many ops (in_turn (one ops operator_of) r)))

unfoldable pub once : Kinds → Reading ExprTree → Reading ExprTree
once ops r = image once_of (in_turn r (maybe ops (in_turn (one ops operator_of) r)))

unfoldable pub evaluated : Reading ExprTree → Reading StatementTree
evaluated e = image (λ t. Evaluate use_for.Drop t) (ended e kind.Semicolon)

-- at a token of kind k, one of kind j behind it decides
abbrev pub ahead : {A : Type 0} → Kind → Kind → Reading A → Reading A → Reading A
ahead k j r s ts = if is k (kind_of ts) then (if is j (kind_of (drop 1 ts)) then r ts else s ts) else Refused Wrong ts

-- ## Productions, of tokens of these bytes

module _ (bytes : List ℕ) where
  abbrev pub name : Reading Name
  name = one (is kind.Name) (name_of bytes)

  abbrev pub int : Reading Number
  int = one (is kind.Int) (number_of bytes)

  -- Expressions: e reads what stands in parentheses, with them, and a the arguments there.

  unfoldable pub primary_by : Reading ExprTree → Reading (List ExprTree) → Kind → Reading ExprTree
  primary_by e a kind.Name = image read_or_call (in_turn name (maybe (is kind.OpenParenthesis) a))
  primary_by e a kind.OpenParenthesis = e
  primary_by e a kind.Do = image do_of (led kind.Do (in_turn name a))
  primary_by e a kind.Handle = image handle_of (led kind.Handle (in_turn name (in_turn a (led kind.With (in_turn name a)))))
  primary_by e a kind.Resume = image resume_of (led kind.Resume (in_turn name (in_turn e (led kind.With a))))
  primary_by e a kind.Group = image group_of (led kind.Group (in_turn name e))
  primary_by e a k = image Literal int

  unfoldable pub unary_by : Reading ExprTree → Reading (List ExprTree) → Kind → Reading ExprTree
  unary_by e a kind.Minus = image (λ t. Unary unary.Minus t) (led kind.Minus (choice (primary_by e a)))
  unary_by e a kind.Not = image (λ t. Unary unary.Not t) (led kind.Not (choice (primary_by e a)))
  unary_by e a k = primary_by e a k

  unfoldable pub products : Reading ExprTree → Reading (List ExprTree) → Reading ExprTree
  products e a = run product_operators (choice (unary_by e a))

  unfoldable pub sums : Reading ExprTree → Reading (List ExprTree) → Reading ExprTree
  sums e a = run sum_operators (products e a)

  unfoldable pub compares : Reading ExprTree → Reading (List ExprTree) → Reading ExprTree
  compares e a = once comparisons (sums e a)

  unfoldable pub ands : Reading ExprTree → Reading (List ExprTree) → Reading ExprTree
  ands e a = run and_operators (compares e a)

  unfoldable pub expr_by : Reading ExprTree → Reading (List ExprTree) → Reading ExprTree
  expr_by e a = run or_operators (ands e a)

  unfoldable pub expr : ℕ → Reading ExprTree
  expr zero = expr_by (in_parentheses None) (in_parentheses None)
  expr (suc n) = expr_by (in_parentheses (Some (expr n))) (in_parentheses (Some (listed (expr n))))

  unfoldable pub parenthesized_expr : ℕ → Reading ExprTree
  parenthesized_expr n = in_parentheses (inside expr n)

  -- Statements: e reads an expression, p one in parentheses, and b a block.

  unfoldable pub assigned : Reading ExprTree → Reading StatementTree
  assigned e = image assign_of (in_turn name (led kind.Assign (ended e kind.Semicolon)))

  unfoldable pub statement_by : Reading ExprTree → Reading ExprTree → Reading BlockTree → Kind → Reading StatementTree
  statement_by e p b kind.Let = image let_of (led kind.Let (in_turn name (led kind.Assign (ended e kind.Semicolon))))
  statement_by e p b kind.If = image if_of (led kind.If (in_turn e (in_turn b (maybe (is kind.Else) (led kind.Else b)))))
  statement_by e p b kind.While = image while_of (led kind.While (in_turn e b))
  statement_by e p b kind.Print = image (λ t. Evaluate use_for.Print t) (led kind.Print (ended e kind.Semicolon))
  statement_by e p b kind.Return = image (λ t. Evaluate use_for.Return t) (led kind.Return (ended e kind.Semicolon))
  statement_by e p b kind.Fail = image (λ _. Fail) (led kind.Fail (key kind.Semicolon))
  statement_by e p b kind.Store = image store_of (led kind.Store (in_turn name (led kind.OpenBracket (in_turn (ended e kind.CloseBracket) (led kind.Assign (ended name kind.Semicolon))))))
  statement_by e p b kind.Take = image take_of (led kind.Take (in_turn name (led kind.Assign (in_turn name (led kind.OpenBracket (ended (ended e kind.CloseBracket) kind.Semicolon))))))
  statement_by e p b kind.Spawn = image spawn_of (led kind.Spawn (in_turn name (led kind.Assign (ended name kind.Semicolon))))
  statement_by e p b kind.Switch = image switch_of (led kind.Switch (in_turn name (led kind.Comma (in_turn name (led kind.Assign (in_turn name (ended p kind.Semicolon)))))))
  statement_by e p b kind.Name = ahead kind.Name kind.Assign (assigned e) (evaluated e)
  statement_by e p b k = evaluated e

  unfoldable pub statements_by : Reading ExprTree → Reading ExprTree → Reading BlockTree → Reading BlockTree
  statements_by e p b = image block_tree (many (other_than (is kind.CloseBrace)) (choice (statement_by e p b)))

  unfoldable pub block : ℕ → Reading BlockTree
  block zero = in_braces None
  block (suc n) = in_braces (Some (statements_by (expr n) (parenthesized_expr n) (block n)))

  -- Declarations.

  unfoldable pub type_by : Kind → Reading VariableType
  type_by kind.Coro = image (λ _. variable.Coroutine) (key kind.Coro)
  type_by k = image (λ h. variable.Resumption h) (led kind.Res name)

  unfoldable pub parameter : Reading Parameter
  parameter = image parameter_of (in_turn name (maybe (is kind.Colon) (led kind.Colon (choice type_by))))

  unfoldable pub parameters : ℕ → Reading (List Parameter)
  parameters n = in_parentheses (inside (λ _. listed parameter) n)

  unfoldable pub names : ℕ → Reading (List Name)
  names n = in_parentheses (inside (λ _. listed name) n)

  unfoldable pub value_name : ℕ → Reading Name
  value_name n = in_parentheses (inside (λ _. name) n)

  unfoldable pub clause : ℕ → Reading Clause
  clause n = image clause_of (led kind.On (in_turn name (in_turn (names n) (in_turn name (block n)))))

  unfoldable pub return_clause : ℕ → Reading ReturnClause
  return_clause n = image return_clause_of (led kind.Return (in_turn (value_name n) (block n)))

  unfoldable pub clauses : ℕ → Reading (ReturnClause × List Clause)
  clauses n = in_turn (return_clause n) (many (is kind.On) (clause n))

  unfoldable pub declaration_by : ℕ → Kind → Reading Declaration
  declaration_by n kind.Fn = image function_of (led kind.Fn (in_turn name (in_turn (parameters n) (block n))))
  declaration_by n kind.Handler = image handler_of (led kind.Handler (in_turn name (in_turn (parameters n) (in_braces (inside clauses n)))))
  declaration_by n kind.Slots = image slots_of (led kind.Slots (in_turn name (led kind.Colon (led kind.Res (in_turn name (led kind.OpenBracket (ended (ended int kind.CloseBracket) kind.Semicolon)))))))
  declaration_by n k = image effect_of (led kind.Effect (in_turn name (led kind.Slash (ended int kind.Semicolon))))

  unfoldable pub declarations : ℕ → Reading (List Declaration)
  declarations n = many (other_than (is kind.End)) (choice (declaration_by n))

  unfoldable pub script : ℕ → Reading Script
  script n = image script_of (declarations n)
