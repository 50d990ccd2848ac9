-- Each item of a repetition takes a token.
use Rattle.std.proofs.Common.{ℕ, List}
use Rattle.s_syntax.specs.declared.token.Kind.TheVariants as kind
use Rattle.s_grammar.specs.Grammar.{Choice}
use Rattle.s_grammar.specs.Kinds.{is, kind_of}
use Rattle.s_grammar.specs.Reading.{Reading, choice}
use Rattle.s_grammar.specs.Reads.{statement_by, expr, parenthesized_expr, block, clause, declaration_by}
use Rattle.s_grammar.specs.Syntax.{StatementBy, Expr, ParenthesizedExpr, Block, ClauseOf, DeclarationBy}
use Rattle.s_grammar.proofs.DeclarationLaws.{clause_laws, declaration_laws_by}
use Rattle.s_grammar.proofs.Ends.{begins_statement, ends_statement, begins_declaration}
use Rattle.s_grammar.proofs.KindSets.{any_kind}
use Rattle.s_grammar.proofs.Repetitions.{Shrinks, shrinks}
use Rattle.s_grammar.proofs.StatementLaws.{statement_laws, block_laws}
use Rattle.s_parse.specs.BehindCommas.{TakesToken}
use Rattle.s_parse.specs.Items.{statement, declaration}

-- in the words of the grammar's lemmas
pub takes_shrinks : {A : Type 0} (r : Reading A) → TakesToken r → Shrinks r
unfolding Shrinks
takes_shrinks r h = h

module _ (bytes : List ℕ) where
  -- statements
  pub statement_shrinks : (n : ℕ) → Shrinks (statement bytes n)
  unfolding statement
  statement_shrinks n = shrinks n 0 begins_statement ends_statement (λ m. Choice (StatementBy bytes (Expr bytes m) (ParenthesizedExpr bytes m) (Block bytes m))) (choice (statement_by bytes (expr bytes n) (parenthesized_expr bytes n) (block bytes n))) (statement_laws bytes n (Block bytes) (block bytes n) (block_laws bytes n))

  -- clauses for effects
  pub clause_shrinks : (n : ℕ) → Shrinks (clause bytes n)
  clause_shrinks n = shrinks n 1 (is kind.On) any_kind (ClauseOf bytes) (clause bytes n) (clause_laws bytes n)

  -- declarations
  pub declaration_shrinks : (n : ℕ) → Shrinks (declaration bytes n)
  unfolding declaration Shrinks
  declaration_shrinks n ts x rest e = shrinks n 2 begins_declaration any_kind (λ m. DeclarationBy bytes m (kind_of ts)) (declaration_by bytes n (kind_of ts)) (declaration_laws_by bytes n (kind_of ts)) ts x rest e
