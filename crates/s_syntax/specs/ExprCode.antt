-- A code for trees of expressions: a list of their parts, each before its own parts, and the tree that such a list gives back.
use Rattle.std.proofs.Common.{◌≡◌, ℕ, zero, suc, List, [], ◌∷◌, ◌++◌, refl, sym, ap, ◌∙◌, append_assoc, lit≤}
use Rattle.std.proofs.lemmas.List.{append-nil}
use Rattle.std.specs.Coded.{Coded, code_by, coded_list, coded×, coded_ℕ}
use Rattle.s_syntax.specs.declared.name.Name.{Name}
use Rattle.s_syntax.specs.declared.number.Number.{Number}
use Rattle.s_syntax.specs.declared.operators.UnaryOperator.{UnaryOperator}
use Rattle.s_syntax.specs.declared.operators.UnaryOperator.TheVariants as unary
use Rattle.s_syntax.specs.declared.operators.Connective.TheVariants as connective
use Rattle.s_syntax.specs.declared.operators.BinaryOperator.{BinaryOperator}
use Rattle.s_syntax.specs.declared.operators.BinaryOperator.TheVariants as binary
use Rattle.s_syntax.specs.contracts.number.Number as written
use Rattle.s_syntax.specs.contracts.operators.UnaryOperator as unary_operator
use Rattle.s_syntax.specs.contracts.operators.BinaryOperator as binary_operator
use Rattle.s_syntax.specs.ExprTree.{ExprTree, Exprs, Operands, Literal, Read, Unary, Run, Call, Do, Handle, Resume, Group, NoExprs, MoreExprs, NoOperands, MoreOperands}

-- ## Parts

-- what a part is
pub data Tag : Type 0 where
  literal_tag : Tag
  read_tag : Tag
  unary_tag : Tag
  run_tag : Tag
  call_tag : Tag
  do_tag : Tag
  handle_tag : Tag
  resume_tag : Tag
  no_exprs_tag : Tag
  more_exprs_tag : Tag
  no_operands_tag : Tag
  more_operands_tag : Tag
  group_tag : Tag

abbrev pub number : Tag → ℕ
number literal_tag = 0
number read_tag = 1
number unary_tag = 2
number run_tag = 3
number call_tag = 4
number do_tag = 5
number handle_tag = 6
number resume_tag = 7
number no_exprs_tag = 8
number more_exprs_tag = 9
number no_operands_tag = 10
number more_operands_tag = 11
number group_tag = 12

abbrev pub tag : ℕ → Tag
tag zero = literal_tag
tag (suc zero) = read_tag
tag (suc (suc zero)) = unary_tag
tag (suc (suc (suc zero))) = run_tag
tag (suc (suc (suc (suc zero)))) = call_tag
tag (suc (suc (suc (suc (suc zero))))) = do_tag
tag (suc (suc (suc (suc (suc (suc zero)))))) = handle_tag
tag (suc (suc (suc (suc (suc (suc (suc zero))))))) = resume_tag
tag (suc (suc (suc (suc (suc (suc (suc (suc zero)))))))) = no_exprs_tag
tag (suc (suc (suc (suc (suc (suc (suc (suc (suc zero))))))))) = more_exprs_tag
tag (suc (suc (suc (suc (suc (suc (suc (suc (suc (suc zero)))))))))) = no_operands_tag
tag (suc (suc (suc (suc (suc (suc (suc (suc (suc (suc (suc zero))))))))))) = more_operands_tag
tag (suc (suc (suc (suc (suc (suc (suc (suc (suc (suc (suc (suc n)))))))))))) = group_tag

pub tag-number : (t : Tag) → tag (number t) ≡ t
tag-number literal_tag = refl
tag-number read_tag = refl
tag-number unary_tag = refl
tag-number run_tag = refl
tag-number call_tag = refl
tag-number do_tag = refl
tag-number handle_tag = refl
tag-number resume_tag = refl
tag-number no_exprs_tag = refl
tag-number more_exprs_tag = refl
tag-number no_operands_tag = refl
tag-number more_operands_tag = refl
tag-number group_tag = refl

abbrev pub tag_code : Coded Tag
tag_code = code_by ℕ coded_ℕ number tag tag-number

-- what is said of one part: its number, its names and its operators, some of which only fill their places
abbrev pub Says : Type 0
Says = Number × ((Name × Name) × (UnaryOperator × BinaryOperator))

abbrev pub Cell : Type 0
Cell = Tag × Says

abbrev pub zero_number : Number
zero_number = record { value = 0; small = lit≤ tt }

abbrev pub zero_literal : ExprTree
zero_literal = Literal zero_number

abbrev pub no_operator : BinaryOperator
no_operator = binary.Connects connective.Or

abbrev pub numbered : Number → Says
numbered n = (n, (([], []), (unary.Minus, no_operator)))

abbrev pub named : Name → Name → Says
named x y = (zero_number, ((x, y), (unary.Minus, no_operator)))

abbrev pub by_unary : UnaryOperator → Says
by_unary o = (zero_number, (([], []), (o, no_operator)))

abbrev pub by_binary : BinaryOperator → Says
by_binary o = (zero_number, (([], []), (unary.Minus, o)))

abbrev pub nothing : Says
nothing = numbered zero_number

-- ## From a tree

abbrev mutual
  pub laid : ExprTree → List Cell
  laid (Literal n) = (literal_tag, numbered n) ∷ []
  laid (Read x) = (read_tag, named x []) ∷ []
  laid (Unary o e) = (unary_tag, by_unary o) ∷ laid e
  laid (Run e ps) = (run_tag, nothing) ∷ (laid e ++ laid_operands ps)
  laid (Call f es) = (call_tag, named f []) ∷ laid_exprs es
  laid (Do op es) = (do_tag, named op []) ∷ laid_exprs es
  laid (Handle f es h ps) = (handle_tag, named f h) ∷ (laid_exprs es ++ laid_exprs ps)
  laid (Resume k e ps) = (resume_tag, named k []) ∷ (laid e ++ laid_exprs ps)
  laid (Group f e) = (group_tag, named f []) ∷ laid e

  pub laid_exprs : Exprs → List Cell
  laid_exprs NoExprs = (no_exprs_tag, nothing) ∷ []
  laid_exprs (MoreExprs e es) = (more_exprs_tag, nothing) ∷ (laid e ++ laid_exprs es)

  pub laid_operands : Operands → List Cell
  laid_operands NoOperands = (no_operands_tag, nothing) ∷ []
  laid_operands (MoreOperands o e ps) = (more_operands_tag, by_binary o) ∷ (laid e ++ laid_operands ps)

-- ## And back

-- what is read so far, the first part in front
pub data Part : Type 0 where
  expr_part : ExprTree → Part
  exprs_part : Exprs → Part
  operands_part : Operands → Part

abbrev pub with_expr : (ExprTree → List Part → List Part) → List Part → List Part
with_expr k [] = []
with_expr k (expr_part e ∷ s) = k e s
with_expr k (exprs_part es ∷ s) = []
with_expr k (operands_part ps ∷ s) = []

abbrev pub with_exprs : (Exprs → List Part → List Part) → List Part → List Part
with_exprs k [] = []
with_exprs k (expr_part e ∷ s) = []
with_exprs k (exprs_part es ∷ s) = k es s
with_exprs k (operands_part ps ∷ s) = []

abbrev pub with_operands : (Operands → List Part → List Part) → List Part → List Part
with_operands k [] = []
with_operands k (expr_part e ∷ s) = []
with_operands k (exprs_part es ∷ s) = []
with_operands k (operands_part ps ∷ s) = k ps s

abbrev pub put_as : Tag → Number → Name → Name → UnaryOperator → BinaryOperator → List Part → List Part
put_as literal_tag n x y o p s = expr_part (Literal n) ∷ s
put_as read_tag n x y o p s = expr_part (Read x) ∷ s
put_as unary_tag n x y o p s = with_expr (λ e s. expr_part (Unary o e) ∷ s) s
put_as run_tag n x y o p s = with_expr (λ e. with_operands (λ ps s. expr_part (Run e ps) ∷ s)) s
put_as call_tag n x y o p s = with_exprs (λ es s. expr_part (Call x es) ∷ s) s
put_as do_tag n x y o p s = with_exprs (λ es s. expr_part (Do x es) ∷ s) s
put_as handle_tag n x y o p s = with_exprs (λ es. with_exprs (λ ps s. expr_part (Handle x es y ps) ∷ s)) s
put_as resume_tag n x y o p s = with_expr (λ e. with_exprs (λ ps s. expr_part (Resume x e ps) ∷ s)) s
put_as no_exprs_tag n x y o p s = exprs_part NoExprs ∷ s
put_as more_exprs_tag n x y o p s = with_expr (λ e. with_exprs (λ es s. exprs_part (MoreExprs e es) ∷ s)) s
put_as no_operands_tag n x y o p s = operands_part NoOperands ∷ s
put_as more_operands_tag n x y o p s = with_expr (λ e. with_operands (λ ps s. operands_part (MoreOperands p e ps) ∷ s)) s
put_as group_tag n x y o p s = with_expr (λ e s. expr_part (Group x e) ∷ s) s

abbrev pub put : Tag → Says → List Part → List Part
put t c s = put_as t c.0 c.1.0.0 c.1.0.1 c.1.1.0 c.1.1.1 s

abbrev pub begun : List Cell → List Part
begun [] = []
begun (c ∷ cs) = put c.0 c.1 (begun cs)

abbrev pub first_expr : List Part → ExprTree
first_expr [] = zero_literal
first_expr (expr_part e ∷ s) = e
first_expr (exprs_part es ∷ s) = zero_literal
first_expr (operands_part ps ∷ s) = zero_literal

abbrev pub read_back : List Cell → ExprTree
read_back cs = first_expr (begun cs)

-- ## A tree is given back

two : (a b c : List Cell) (x y : Part) → begun (a ++ (b ++ c)) ≡ x ∷ begun (b ++ c) → begun (b ++ c) ≡ y ∷ begun c → begun ((a ++ b) ++ c) ≡ x ∷ (y ∷ begun c)
two a b c x y e f = ap begun (append_assoc a b c) ∙ e ∙ ap (λ (s : List Part). x ∷ s) f

mutual
  expr_begun : (e : ExprTree) (c : List Cell) → begun (laid e ++ c) ≡ expr_part e ∷ begun c
  expr_begun (Literal n) c = refl
  expr_begun (Read x) c = refl
  expr_begun (Unary o e) c = ap (put unary_tag (by_unary o)) (expr_begun e c)
  expr_begun (Run e ps) c = ap (put run_tag nothing) (two (laid e) (laid_operands ps) c (expr_part e) (operands_part ps) (expr_begun e (laid_operands ps ++ c)) (operands_begun ps c))
  expr_begun (Call f es) c = ap (put call_tag (named f [])) (exprs_begun es c)
  expr_begun (Do op es) c = ap (put do_tag (named op [])) (exprs_begun es c)
  expr_begun (Handle f es h ps) c = ap (put handle_tag (named f h)) (two (laid_exprs es) (laid_exprs ps) c (exprs_part es) (exprs_part ps) (exprs_begun es (laid_exprs ps ++ c)) (exprs_begun ps c))
  expr_begun (Resume k e ps) c = ap (put resume_tag (named k [])) (two (laid e) (laid_exprs ps) c (expr_part e) (exprs_part ps) (expr_begun e (laid_exprs ps ++ c)) (exprs_begun ps c))
  expr_begun (Group f e) c = ap (put group_tag (named f [])) (expr_begun e c)

  exprs_begun : (es : Exprs) (c : List Cell) → begun (laid_exprs es ++ c) ≡ exprs_part es ∷ begun c
  exprs_begun NoExprs c = refl
  exprs_begun (MoreExprs e es) c = ap (put more_exprs_tag nothing) (two (laid e) (laid_exprs es) c (expr_part e) (exprs_part es) (expr_begun e (laid_exprs es ++ c)) (exprs_begun es c))

  operands_begun : (ps : Operands) (c : List Cell) → begun (laid_operands ps ++ c) ≡ operands_part ps ∷ begun c
  operands_begun NoOperands c = refl
  operands_begun (MoreOperands o e ps) c = ap (put more_operands_tag (by_binary o)) (two (laid e) (laid_operands ps) c (expr_part e) (operands_part ps) (expr_begun e (laid_operands ps ++ c)) (operands_begun ps c))

pub read_back-laid : (e : ExprTree) → read_back (laid e) ≡ e
read_back-laid e = ap read_back (sym (append-nil (laid e))) ∙ ap first_expr (expr_begun e [])

abbrev pub name_code : Coded Name
name_code = coded_list coded_ℕ

abbrev pub says_code : Coded Says
says_code = coded× written.the_row.coded (coded× (coded× name_code name_code) (coded× unary_operator.the_row.coded binary_operator.the_row.coded))

abbrev pub expr_code : Coded ExprTree
expr_code = code_by (List Cell) (coded_list (coded× tag_code says_code)) laid read_back read_back-laid
