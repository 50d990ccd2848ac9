-- Reading of the parts of statements and declarations that have a function of their own.
use Rattle.std.specs.Prelude.{ℕ, List, Option, Some, None}
use Rattle.s_syntax.specs.declared.token.Kind.TheVariants as kind
use Rattle.s_syntax.specs.declared.script.Clause.{Clause}
use Rattle.s_syntax.specs.declared.script.ReturnClause.{ReturnClause}
use Rattle.s_syntax.specs.declared.script.Declaration.{Declaration}
use Rattle.s_syntax.specs.declared.name.Name.{Name}
use Rattle.s_syntax.specs.ExprTree.{ExprTree}
use Rattle.s_syntax.specs.BlockTree.{StatementTree, BlockTree, Done}
use Rattle.s_grammar.specs.Kinds.{is}
use Rattle.s_grammar.specs.Reading.{Reading, choice, in_turn, inside, many, maybe}
use Rattle.s_grammar.specs.Reads.{in_braces, led, ended, name, expr, parenthesized_expr, block, statement_by, statements_by, clause, clauses, declaration_by}

-- a block that may be missing
abbrev pub or_done : Option BlockTree → BlockTree
or_done None = Done
or_done (Some b) = b

module _ (bytes : List ℕ) where
  -- a statement, and those of a block
  unfoldable pub statement : ℕ → Reading StatementTree
  statement n = choice (statement_by bytes (expr bytes n) (parenthesized_expr bytes n) (block bytes n))

  unfoldable pub statements : ℕ → Reading BlockTree
  statements n = statements_by bytes (expr bytes n) (parenthesized_expr bytes n) (block bytes n)

  -- a name and its value, as a let and an assignment end
  abbrev pub named_value : ℕ → Reading (Name × ExprTree)
  named_value n = in_turn (name bytes) (led kind.Assign (ended (expr bytes n) kind.Semicolon))

  -- the blocks of a choice
  abbrev pub branches : ℕ → Reading (BlockTree × Option BlockTree)
  branches n = in_turn (block bytes n) (maybe (is kind.Else) (led kind.Else (block bytes n)))

  -- the clauses of a handler for effects, and all its clauses in their braces
  unfoldable pub effect_clauses : ℕ → Reading (List Clause)
  effect_clauses n = many (is kind.On) (clause bytes n)

  unfoldable pub braced_clauses : ℕ → Reading (ReturnClause × List Clause)
  braced_clauses n = in_braces (inside (clauses bytes) n)

  unfoldable pub declaration : ℕ → Reading Declaration
  declaration n = choice (declaration_by bytes n)
