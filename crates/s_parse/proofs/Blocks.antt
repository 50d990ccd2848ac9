-- A block, and its statements.
use Rattle.std.proofs.Common.{◌≡◌, ℕ, zero, suc, List, [], ◌∷◌, Option, Some, None, refl, ap, ◌∙◌}
use Rattle.s_syntax.specs.BlockOf.{statement_of, block_of}
use Rattle.s_syntax.specs.BlockTree.{BlockTree, If, ◌⨟◌}
use Rattle.s_syntax.specs.ExprTree.{ExprTree}
use Rattle.s_syntax.specs.declared.statement.Statement.{Statement}
use Rattle.s_syntax.specs.declared.token.Kind.TheVariants as kind
use Rattle.s_syntax.specs.declared.token.Token.{Token}
use Rattle.s_grammar.specs.Kinds.{other_than, is}
use Rattle.s_grammar.specs.Parts.{block_tree, if_of}
use Rattle.s_grammar.specs.Reading.{inside, image, many, Answer, Reading}
use Rattle.s_grammar.specs.Reads.{block, in_braces, statements_by}
use Rattle.s_expr.proofs.Loops.{viewed}
use Rattle.s_parse.specs.Items.{statements, statement, or_done}

-- the tree of statements that are seen is that of the statements
pub block_seen : (ss : List Statement) → block_tree (viewed statement_of ss) ≡ block_of ss
block_seen [] = refl
block_seen (s ∷ ss) = ap (λ (b : BlockTree). statement_of s ⨟ b) (block_seen ss)

module _ (bytes : List ℕ) where
  -- a block is its statements in braces
  pub block_is : (n : ℕ) → block bytes n ≡ in_braces (inside (statements bytes) n)
  unfolding block statements
  block_is zero = refl
  block_is (suc n) = refl

  -- statements are a repetition
  pub statements_are : (n : ℕ) → statements bytes n ≡ image block_tree (many (other_than (is kind.CloseBrace)) (statement bytes n))
  unfolding statements statements_by statement
  statements_are n = refl

  -- what holds of a block by its braces
  pub by_braces : (n : ℕ) (l : List Token) (o : Answer BlockTree) → in_braces (inside (statements bytes) n) l ≡ o → block bytes n l ≡ o
  by_braces n l o e = ap (λ (r : Reading BlockTree). r l) (block_is n) ∙ e

  -- what holds of statements by their repetition
  pub by_items : (n : ℕ) (l : List Token) (o : Answer BlockTree) → image block_tree (many (other_than (is kind.CloseBrace)) (statement bytes n)) l ≡ o → statements bytes n l ≡ o
  by_items n l o e = ap (λ (r : Reading BlockTree). r l) (statements_are n) ∙ e

-- a choice by its condition and its blocks
pub if_seen : (c : ExprTree) (a : BlockTree) (o : Option BlockTree) → if_of (c, (a, o)) ≡ If c a (or_done o)
if_seen c a None = refl
if_seen c a (Some b) = refl
