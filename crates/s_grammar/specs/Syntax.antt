-- The grammar of scripts: which tokens spell which tree, where at most m brackets are open at a time.
use Rattle.std.specs.Prelude.{ℕ, zero, suc, List, ◌⊎◌}
use Rattle.s_syntax.specs.declared.token.Kind.{Kind}
use Rattle.s_syntax.specs.declared.token.Kind.TheVariants as kind
use Rattle.s_syntax.specs.declared.token.Token.{Token}
use Rattle.s_syntax.specs.declared.name.Name.{Name}
use Rattle.s_syntax.specs.declared.number.Number.{Number}
use Rattle.s_syntax.specs.declared.operators.UnaryOperator.TheVariants as unary
use Rattle.s_syntax.specs.declared.script.VariableType.{VariableType}
use Rattle.s_syntax.specs.declared.script.VariableType.TheVariants as variable
use Rattle.s_syntax.specs.declared.script.Parameter.{Parameter}
use Rattle.s_syntax.specs.declared.script.Clause.{Clause}
use Rattle.s_syntax.specs.declared.script.ReturnClause.{ReturnClause}
use Rattle.s_syntax.specs.declared.script.Declaration.{Declaration}
use Rattle.s_syntax.specs.declared.script.Script.{Script}
use Rattle.s_syntax.specs.ExprTree.{ExprTree, Literal, Unary}
use Rattle.s_syntax.specs.declared.statement.Use.TheVariants as use_for
use Rattle.s_syntax.specs.BlockTree.{StatementTree, BlockTree, Evaluate, Fail}
use Rattle.s_grammar.specs.Kinds.{Kinds, is}
use Rattle.s_grammar.specs.Grammar.{Grammar, One, InTurn, Image, Each, Maybe, Choice, Between, Never, Inside}
use Rattle.s_grammar.specs.Texts.{name_of, number_of}
use Rattle.s_grammar.specs.Operators.{or_operators, and_operators, comparisons, sum_operators, product_operators, operator_of}
use Rattle.s_grammar.specs.Parts.{itself, former, latter, or_nothing, run_of, once_of, read_or_call, do_of, handle_of, resume_of, group_of, let_of, assign_of, store_of, take_of, spawn_of, switch_of, if_of, while_of, block_tree, parameter_of, clause_of, return_clause_of, effect_of, function_of, handler_of, slots_of, script_of}
use Rattle.s_grammar.specs.Reading.{cons}

-- ## Parts of productions

abbrev pub Key : Kind → Grammar Token
Key k = One (is k) itself

-- a token of kind k, and then g
abbrev pub Led : {A : Type 0} → Kind → Grammar A → Grammar A
Led k g = Image latter (InTurn (Key k) g)

-- g, and then a token of kind k
abbrev pub ClosedBy : {A : Type 0} → Grammar A → Kind → Grammar A
ClosedBy g k = Image former (InTurn g (Key k))

-- (g (',' g)*)?
abbrev pub Listed : {A : Type 0} → Grammar A → Grammar (List A)
Listed g = Image or_nothing (Maybe (Image cons (InTurn g (Each (Led kind.Comma g)))))

-- '(' g ')'
abbrev pub InParentheses : {A : Type 0} → Grammar A → Grammar A
InParentheses g = Between kind.OpenParenthesis kind.CloseParenthesis g

-- '{' g '}'
abbrev pub InBraces : {A : Type 0} → Grammar A → Grammar A
InBraces g = Between kind.OpenBrace kind.CloseBrace g

-- g (op g)*, with operators of one level
abbrev pub RunOf : Kinds → Grammar ExprTree → Grammar ExprTree
RunOf ops g = Image run_of (InTurn g (Each (InTurn (One ops operator_of) g)))

-- g (op g)?
abbrev pub OnceOf : Kinds → Grammar ExprTree → Grammar ExprTree
OnceOf ops g = Image once_of (InTurn g (Maybe (InTurn (One ops operator_of) g)))

-- e ';'
abbrev pub EvaluateOf : Grammar ExprTree → Grammar StatementTree
EvaluateOf e = Image (λ t. Evaluate use_for.Drop t) (ClosedBy e kind.Semicolon)

-- ## Productions, of tokens of these bytes

module _ (bytes : List ℕ) where
  abbrev pub NAME : Grammar Name
  NAME = One (is kind.Name) (name_of bytes)

  abbrev pub INT : Grammar Number
  INT = One (is kind.Int) (number_of bytes)

  -- Expressions: e is what stands in parentheses, with them, and a the arguments there.

  -- INT | NAME | NAME a | e | 'do' NAME a | 'handle' NAME a 'with' NAME a | 'resume' NAME e 'with' a | 'group' NAME e
  unfoldable pub PrimaryBy : Grammar ExprTree → Grammar (List ExprTree) → Kind → Grammar ExprTree
  PrimaryBy e a kind.Name = Image read_or_call (InTurn NAME (Maybe a))
  PrimaryBy e a kind.OpenParenthesis = e
  PrimaryBy e a kind.Do = Image do_of (Led kind.Do (InTurn NAME a))
  PrimaryBy e a kind.Handle = Image handle_of (Led kind.Handle (InTurn NAME (InTurn a (Led kind.With (InTurn NAME a)))))
  PrimaryBy e a kind.Resume = Image resume_of (Led kind.Resume (InTurn NAME (InTurn e (Led kind.With a))))
  PrimaryBy e a kind.Group = Image group_of (Led kind.Group (InTurn NAME e))
  PrimaryBy e a k = Image Literal INT

  -- ('-' | '!')? primary
  unfoldable pub UnaryBy : Grammar ExprTree → Grammar (List ExprTree) → Kind → Grammar ExprTree
  UnaryBy e a kind.Minus = Image (λ t. Unary unary.Minus t) (Led kind.Minus (Choice (PrimaryBy e a)))
  UnaryBy e a kind.Not = Image (λ t. Unary unary.Not t) (Led kind.Not (Choice (PrimaryBy e a)))
  UnaryBy e a k = PrimaryBy e a k

  -- The five levels of operators: runs of them, but for comparisons, which do not chain.
  unfoldable pub ExprOf : Grammar ExprTree → Grammar (List ExprTree) → Grammar ExprTree
  ExprOf e a = RunOf or_operators (RunOf and_operators (OnceOf comparisons (RunOf sum_operators (RunOf product_operators (Choice (UnaryBy e a))))))

  -- '(' expr ')' and '(' (expr (',' expr)*)? ')' stand in an expression
  unfoldable pub Expr : ℕ → Grammar ExprTree
  Expr zero = ExprOf (InParentheses Never) (InParentheses Never)
  Expr (suc m) = ExprOf (InParentheses (Expr m)) (InParentheses (Listed (Expr m)))

  -- an expression in parentheses, with them
  unfoldable pub ParenthesizedExpr : ℕ → Grammar ExprTree
  ParenthesizedExpr m = InParentheses (Inside Expr m)

  -- Statements: e is an expression, p one in parentheses, and b a block.

  -- NAME '=' e ';'
  abbrev pub AssignOf : Grammar ExprTree → Grammar StatementTree
  AssignOf e = Image assign_of (InTurn NAME (Led kind.Assign (ClosedBy e kind.Semicolon)))

  -- 'let' NAME '=' e ';' | 'if' e b ('else' b)? | 'while' e b | 'print' e ';' | 'return' e ';' | 'fail' ';'
  -- | 'store' NAME '[' e ']' '=' NAME ';' | 'take' NAME '=' NAME '[' e ']' ';' | 'spawn' NAME '=' NAME ';'
  -- | 'switch' NAME ',' NAME '=' NAME p ';' | NAME '=' e ';' | e ';'
  unfoldable pub StatementBy : Grammar ExprTree → Grammar ExprTree → Grammar BlockTree → Kind → Grammar StatementTree
  StatementBy e p b kind.Let = Image let_of (Led kind.Let (InTurn NAME (Led kind.Assign (ClosedBy e kind.Semicolon))))
  StatementBy e p b kind.If = Image if_of (Led kind.If (InTurn e (InTurn b (Maybe (Led kind.Else b)))))
  StatementBy e p b kind.While = Image while_of (Led kind.While (InTurn e b))
  StatementBy e p b kind.Print = Image (λ t. Evaluate use_for.Print t) (Led kind.Print (ClosedBy e kind.Semicolon))
  StatementBy e p b kind.Return = Image (λ t. Evaluate use_for.Return t) (Led kind.Return (ClosedBy e kind.Semicolon))
  StatementBy e p b kind.Fail = Image (λ _. Fail) (Led kind.Fail (Key kind.Semicolon))
  StatementBy e p b kind.Store = Image store_of (Led kind.Store (InTurn NAME (Led kind.OpenBracket (InTurn (ClosedBy e kind.CloseBracket) (Led kind.Assign (ClosedBy NAME kind.Semicolon))))))
  StatementBy e p b kind.Take = Image take_of (Led kind.Take (InTurn NAME (Led kind.Assign (InTurn NAME (Led kind.OpenBracket (ClosedBy (ClosedBy e kind.CloseBracket) kind.Semicolon))))))
  StatementBy e p b kind.Spawn = Image spawn_of (Led kind.Spawn (InTurn NAME (Led kind.Assign (ClosedBy NAME kind.Semicolon))))
  StatementBy e p b kind.Switch = Image switch_of (Led kind.Switch (InTurn NAME (Led kind.Comma (InTurn NAME (Led kind.Assign (InTurn NAME (ClosedBy p kind.Semicolon)))))))
  StatementBy e p b kind.Name = λ ts s. AssignOf e ts s ⊎ EvaluateOf e ts s
  StatementBy e p b k = EvaluateOf e

  abbrev pub StatementsOf : Grammar ExprTree → Grammar ExprTree → Grammar BlockTree → Grammar BlockTree
  StatementsOf e p b = Image block_tree (Each (Choice (StatementBy e p b)))

  -- '{' statement* '}'
  unfoldable pub Block : ℕ → Grammar BlockTree
  Block zero = InBraces Never
  Block (suc m) = InBraces (StatementsOf (Expr m) (ParenthesizedExpr m) (Block m))

  -- Declarations.

  -- 'res' NAME | 'coro'
  unfoldable pub TypeBy : Kind → Grammar VariableType
  TypeBy kind.Coro = Image (λ _. variable.Coroutine) (Key kind.Coro)
  TypeBy k = Image (λ h. variable.Resumption h) (Led kind.Res NAME)

  -- NAME (':' type)?
  abbrev pub ParameterOf : Grammar Parameter
  ParameterOf = Image parameter_of (InTurn NAME (Maybe (Led kind.Colon (Choice TypeBy))))

  -- '(' (parameter (',' parameter)*)? ')'
  abbrev pub Parameters : ℕ → Grammar (List Parameter)
  Parameters m = InParentheses (Inside (λ _. Listed ParameterOf) m)

  -- '(' (NAME (',' NAME)*)? ')'
  abbrev pub Names : ℕ → Grammar (List Name)
  Names m = InParentheses (Inside (λ _. Listed NAME) m)

  -- '(' NAME ')'
  abbrev pub ValueName : ℕ → Grammar Name
  ValueName m = InParentheses (Inside (λ _. NAME) m)

  -- 'on' NAME names NAME block
  abbrev pub ClauseOf : ℕ → Grammar Clause
  ClauseOf m = Image clause_of (Led kind.On (InTurn NAME (InTurn (Names m) (InTurn NAME (Block m)))))

  -- 'return' '(' NAME ')' block
  abbrev pub ReturnClauseOf : ℕ → Grammar ReturnClause
  ReturnClauseOf m = Image return_clause_of (Led kind.Return (InTurn (ValueName m) (Block m)))

  abbrev pub Clauses : ℕ → Grammar (ReturnClause × List Clause)
  Clauses m = InTurn (ReturnClauseOf m) (Each (ClauseOf m))

  -- 'effect' NAME '/' INT ';' | 'fn' NAME parameters block | 'handler' NAME parameters '{' return_clause clause* '}'
  -- | 'slots' NAME ':' 'res' NAME '[' INT ']' ';'
  unfoldable pub DeclarationBy : ℕ → Kind → Grammar Declaration
  DeclarationBy m kind.Fn = Image function_of (Led kind.Fn (InTurn NAME (InTurn (Parameters m) (Block m))))
  DeclarationBy m kind.Handler = Image handler_of (Led kind.Handler (InTurn NAME (InTurn (Parameters m) (InBraces (Inside Clauses m)))))
  DeclarationBy m kind.Slots = Image slots_of (Led kind.Slots (InTurn NAME (Led kind.Colon (Led kind.Res (InTurn NAME (Led kind.OpenBracket (ClosedBy (ClosedBy INT kind.CloseBracket) kind.Semicolon)))))))
  DeclarationBy m k = Image effect_of (Led kind.Effect (InTurn NAME (Led kind.Slash (ClosedBy INT kind.Semicolon))))

  -- declaration*
  unfoldable pub ScriptOf : ℕ → Grammar Script
  ScriptOf m = Image script_of (Each (Choice (DeclarationBy m)))

  -- the tokens spell a script, whatever the nesting
  abbrev pub Spells : List Token → Script → Type 0
  Spells ts p = (m : ℕ) × ScriptOf m ts p
