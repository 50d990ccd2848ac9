-- A code for trees of blocks, made as that of expressions is.
use Rattle.std.proofs.Common.{◌≡◌, ℕ, zero, suc, List, [], ◌∷◌, ◌++◌, refl, sym, ap, ◌∙◌, append_assoc}
use Rattle.std.proofs.lemmas.List.{append-nil}
use Rattle.std.specs.Coded.{Coded, code_by, coded_list, coded×, coded_ℕ}
use Rattle.s_syntax.specs.declared.name.Name.{Name}
use Rattle.s_syntax.specs.declared.statement.Use.{Use}
use Rattle.s_syntax.specs.declared.statement.Use.TheVariants as use_for
use Rattle.s_syntax.specs.contracts.statement.Use as value_use
use Rattle.s_syntax.specs.ExprTree.{ExprTree}
use Rattle.s_syntax.specs.ExprCode.{zero_literal, name_code, expr_code}
use Rattle.s_syntax.specs.BlockTree.{StatementTree, BlockTree, Evaluate, If, While, Fail, Spawn, Done, ◌⨟◌}

-- ## Parts

pub data Tag : Type 0 where
  evaluate_tag : Tag
  if_tag : Tag
  while_tag : Tag
  fail_tag : Tag
  done_tag : Tag
  first_tag : Tag
  spawn_tag : Tag

abbrev pub number : Tag → ℕ
number evaluate_tag = 0
number if_tag = 1
number while_tag = 2
number fail_tag = 3
number done_tag = 4
number first_tag = 5
number spawn_tag = 6

abbrev pub tag : ℕ → Tag
tag zero = evaluate_tag
tag (suc zero) = if_tag
tag (suc (suc zero)) = while_tag
tag (suc (suc (suc zero))) = fail_tag
tag (suc (suc (suc (suc zero)))) = done_tag
tag (suc (suc (suc (suc (suc zero))))) = first_tag
tag (suc (suc (suc (suc (suc (suc n)))))) = spawn_tag

pub tag-number : (t : Tag) → tag (number t) ≡ t
tag-number evaluate_tag = refl
tag-number if_tag = refl
tag-number while_tag = refl
tag-number fail_tag = refl
tag-number done_tag = refl
tag-number first_tag = refl
tag-number spawn_tag = refl

abbrev pub tag_code : Coded Tag
tag_code = code_by ℕ coded_ℕ number tag tag-number

-- what is said of one part: its use, its expression and its names, some of which only fill their places
abbrev pub Says : Type 0
Says = Use × (ExprTree × (Name × Name))

abbrev pub Cell : Type 0
Cell = Tag × Says

abbrev pub used : Use → ExprTree → Says
used u e = (u, (e, ([], [])))

abbrev pub of_expr : ExprTree → Says
of_expr e = used use_for.Drop e

abbrev pub named : Name → Name → Says
named x y = (use_for.Drop, (zero_literal, (x, y)))

abbrev pub nothing : Says
nothing = of_expr zero_literal

-- ## From a tree

abbrev mutual
  pub laid_statement : StatementTree → List Cell
  laid_statement (Evaluate u e) = (evaluate_tag, used u e) ∷ []
  laid_statement (If c a b) = (if_tag, of_expr c) ∷ (laid a ++ laid b)
  laid_statement (While c b) = (while_tag, of_expr c) ∷ laid b
  laid_statement Fail = (fail_tag, nothing) ∷ []
  laid_statement (Spawn t f) = (spawn_tag, named t f) ∷ []

  pub laid : BlockTree → List Cell
  laid Done = (done_tag, nothing) ∷ []
  laid (s ⨟ b) = (first_tag, nothing) ∷ (laid_statement s ++ laid b)

-- ## And back

pub data Part : Type 0 where
  statement_part : StatementTree → Part
  block_part : BlockTree → Part

abbrev pub with_statement : (StatementTree → List Part → List Part) → List Part → List Part
with_statement k [] = []
with_statement k (statement_part t ∷ s) = k t s
with_statement k (block_part b ∷ s) = []

abbrev pub with_block : (BlockTree → List Part → List Part) → List Part → List Part
with_block k [] = []
with_block k (statement_part t ∷ s) = []
with_block k (block_part b ∷ s) = k b s

abbrev pub put_as : Tag → Use → ExprTree → Name → Name → List Part → List Part
put_as evaluate_tag u e x y s = statement_part (Evaluate u e) ∷ s
put_as if_tag u e x y s = with_block (λ a. with_block (λ b s. statement_part (If e a b) ∷ s)) s
put_as while_tag u e x y s = with_block (λ b s. statement_part (While e b) ∷ s) s
put_as fail_tag u e x y s = statement_part Fail ∷ s
put_as done_tag u e x y s = block_part Done ∷ s
put_as first_tag u e x y s = with_statement (λ t. with_block (λ b s. block_part (t ⨟ b) ∷ s)) s
put_as spawn_tag u e x y s = statement_part (Spawn x y) ∷ s

abbrev pub put : Tag → Says → List Part → List Part
put t c s = put_as t c.0 c.1.0 c.1.1.0 c.1.1.1 s

abbrev pub begun : List Cell → List Part
begun [] = []
begun (c ∷ cs) = put c.0 c.1 (begun cs)

abbrev pub first_block : List Part → BlockTree
first_block [] = Done
first_block (statement_part t ∷ s) = Done
first_block (block_part b ∷ s) = b

abbrev pub read_back : List Cell → BlockTree
read_back cs = first_block (begun cs)

-- ## A tree is given back

two : (a b c : List Cell) (x y : Part) → begun (a ++ (b ++ c)) ≡ x ∷ begun (b ++ c) → begun (b ++ c) ≡ y ∷ begun c → begun ((a ++ b) ++ c) ≡ x ∷ (y ∷ begun c)
two a b c x y e f = ap begun (append_assoc a b c) ∙ e ∙ ap (λ (s : List Part). x ∷ s) f

mutual
  statement_begun : (t : StatementTree) (r : List Cell) → begun (laid_statement t ++ r) ≡ statement_part t ∷ begun r
  statement_begun (Evaluate u e) r = refl
  statement_begun (If c a b) r = ap (put if_tag (of_expr c)) (two (laid a) (laid b) r (block_part a) (block_part b) (block_begun a (laid b ++ r)) (block_begun b r))
  statement_begun (While c b) r = ap (put while_tag (of_expr c)) (block_begun b r)
  statement_begun Fail r = refl
  statement_begun (Spawn t f) r = refl

  block_begun : (b : BlockTree) (r : List Cell) → begun (laid b ++ r) ≡ block_part b ∷ begun r
  block_begun Done r = refl
  block_begun (s ⨟ b) r = ap (put first_tag nothing) (two (laid_statement s) (laid b) r (statement_part s) (block_part b) (statement_begun s (laid b ++ r)) (block_begun b r))

pub read_back-laid : (b : BlockTree) → read_back (laid b) ≡ b
read_back-laid b = ap read_back (sym (append-nil (laid b))) ∙ ap first_block (block_begun b [])

abbrev pub block_code : Coded BlockTree
block_code = code_by (List Cell) (coded_list (coded× tag_code (coded× value_use.the_row.coded (coded× expr_code (coded× name_code name_code))))) laid read_back read_back-laid
