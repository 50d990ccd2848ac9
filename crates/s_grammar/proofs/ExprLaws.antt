-- The laws of expressions.
use Rattle.std.proofs.Common.{ℕ, zero, suc, true, false, List, [], ◌∷◌, ◌++◌, Option, Some, None, refl, arith}
use Rattle.s_syntax.specs.ExprTree.{Literal, ExprTree, Unary}
use Rattle.s_syntax.specs.declared.operators.UnaryOperator.TheVariants as unary
use Rattle.s_syntax.specs.declared.token.Kind.{Kind}
use Rattle.s_syntax.specs.declared.token.Kind.TheVariants as kind
use Rattle.s_syntax.specs.declared.token.Token.{Token}
use Rattle.s_grammar.specs.Grammar.{Image, Grammar, Choice, Between, Inside}
use Rattle.s_grammar.specs.Kinds.{is}
use Rattle.s_grammar.specs.Operators.{or_operators, and_operators, comparisons, sum_operators, product_operators}
use Rattle.s_grammar.specs.Parts.{read_or_call, do_of, handle_of, resume_of, group_of}
use Rattle.s_grammar.specs.Reading.{Reading, choice, inside}
use Rattle.s_grammar.specs.Reads.{name, int, primary_by, unary_by, expr_by, ands, compares, sums, products, in_parentheses, listed, expr, parenthesized_expr}
use Rattle.s_grammar.specs.Syntax.{NAME, INT, UnaryBy, PrimaryBy, ExprOf, RunOf, OnceOf, Expr, ParenthesizedExpr, Listed}
use Rattle.s_grammar.specs.Texts.{name_of, number_of}
use Rattle.s_grammar.proofs.Choices.{choice_laws}
use Rattle.s_grammar.proofs.Enclosures.{InsideLaws, between_laws}
use Rattle.s_grammar.proofs.Ends.{begins_expr, ends_primary, ends_expr, ends_and, ends_compare, ends_sum, ends_product}
use Rattle.s_grammar.proofs.ForParts.{wider_of, image_of, in_turn_of, maybe_of, led_laws, run_laws, once_laws, run_begins, once_begins, parentheses, inside_of, listed_laws, listed_begins}
use Rattle.s_grammar.proofs.Images.{deeper_laws, laws_as}
use Rattle.s_grammar.proofs.KindSets.{any_kind}
use Rattle.s_grammar.proofs.ReadingLaws.{Laws, Begins}
use Rattle.s_grammar.proofs.OneToken.{one_laws, token_of}

module _ (bytes : List ℕ) where
  -- names
  pub name_laws : (n : ℕ) → Laws n 0 false (is kind.Name) any_kind (λ m. NAME bytes) (name bytes)
  name_laws n = one_laws n (is kind.Name) (name_of bytes) kind.Name refl refl

  -- numbers
  pub int_laws : (n : ℕ) → Laws n 0 false (is kind.Int) any_kind (λ m. INT bytes) (int bytes)
  int_laws n = one_laws n (is kind.Int) (number_of bytes) kind.Int refl refl

  -- a number is spelled
  number_sample : Image Literal (INT bytes) (token_of kind.Int ∷ []) (Literal (number_of bytes (token_of kind.Int)))
  number_sample = (number_of bytes (token_of kind.Int), (token_of kind.Int, refl, refl, refl), refl)

  -- so is an operand
  expr_sample : (E : ℕ → Grammar ExprTree) (A : ℕ → Grammar (List ExprTree)) (m : ℕ) → Begins (Choice (UnaryBy bytes (E m) (A m))) []
  unfolding UnaryBy PrimaryBy
  expr_sample E A m = (token_of kind.Int ∷ [], Literal (number_of bytes (token_of kind.Int)), number_sample)

  -- and one without an operator in front
  primary_sample : (E : ℕ → Grammar ExprTree) (A : ℕ → Grammar (List ExprTree)) (m : ℕ) → Begins (Choice (PrimaryBy bytes (E m) (A m))) []
  unfolding PrimaryBy
  primary_sample E A m = (token_of kind.Int ∷ [], Literal (number_of bytes (token_of kind.Int)), number_sample)

  module _ (n : ℕ) (E : ℕ → Grammar ExprTree) (A : ℕ → Grammar (List ExprTree)) (e : Reading ExprTree) (a : Reading (List ExprTree))
      (p : Laws n 1 false (is kind.OpenParenthesis) any_kind E e) (q : Laws n 1 false (is kind.OpenParenthesis) any_kind A a) where
    -- operands without an operator in front, by their first token
    primary_laws_by : (k : Kind) → Laws n 1 false begins_expr ends_primary (λ m. PrimaryBy bytes (E m) (A m) k) (primary_by bytes e a k)
    unfolding PrimaryBy primary_by
    primary_laws_by kind.Name = wider_of begins_expr ends_primary refl refl (image_of read_or_call (in_turn_of (omega arith) (deeper_laws 1 (omega arith) (name_laws n)) (deeper_laws 1 (omega arith) (maybe_of (is kind.OpenParenthesis) refl q)) refl))
    primary_laws_by kind.OpenParenthesis = wider_of begins_expr ends_primary refl refl p
    primary_laws_by kind.Do = wider_of begins_expr ends_primary refl refl (image_of do_of (led_laws kind.Do (omega arith) refl refl refl (in_turn_of (omega arith) (deeper_laws 1 (omega arith) (name_laws n)) q refl)))
    primary_laws_by kind.Handle =
        wider_of begins_expr ends_primary refl refl
        (image_of handle_of
        (led_laws kind.Handle (omega arith) refl refl refl
        (in_turn_of (omega arith) (deeper_laws 1 (omega arith) (name_laws n)) (in_turn_of (omega arith) q (led_laws kind.With (omega arith) refl refl refl (in_turn_of (omega arith) (deeper_laws 1 (omega arith) (name_laws n)) q refl)) refl) refl)))
    primary_laws_by kind.Resume =
        wider_of begins_expr ends_primary refl refl
        (image_of resume_of
        (led_laws kind.Resume (omega arith) refl refl refl
        (in_turn_of (omega arith) (deeper_laws 1 (omega arith) (name_laws n)) (in_turn_of (omega arith) p (led_laws kind.With (omega arith) refl refl refl q) refl) refl)))
    primary_laws_by kind.Group = wider_of begins_expr ends_primary refl refl (image_of group_of (led_laws kind.Group (omega arith) refl refl refl (in_turn_of (omega arith) (deeper_laws 1 (omega arith) (name_laws n)) p refl)))
    primary_laws_by k = wider_of begins_expr ends_primary refl refl (image_of Literal (deeper_laws 1 (omega arith) (int_laws n)))

    -- all of these
    primary_laws : Laws n 0 false begins_expr ends_primary (λ m. Choice (PrimaryBy bytes (E m) (A m))) (choice (primary_by bytes e a))
    primary_laws = choice_laws n 0 1 begins_expr ends_primary (λ k m. PrimaryBy bytes (E m) (A m) k) (primary_by bytes e a) (omega arith) primary_laws_by (λ m l. primary_sample E A m)

    -- operands, by their first token
    unary_laws_by : (k : Kind) → Laws n 1 false begins_expr ends_primary (λ m. UnaryBy bytes (E m) (A m) k) (unary_by bytes e a k)
    unfolding UnaryBy unary_by
    unary_laws_by kind.Minus = wider_of begins_expr ends_primary refl refl (image_of (λ t. Unary unary.Minus t) (led_laws kind.Minus (omega arith) refl refl refl (deeper_laws 1 (omega arith) primary_laws)))
    unary_laws_by kind.Not = wider_of begins_expr ends_primary refl refl (image_of (λ t. Unary unary.Not t) (led_laws kind.Not (omega arith) refl refl refl (deeper_laws 1 (omega arith) primary_laws)))
    unary_laws_by k = primary_laws_by k

    -- all operands
    pub unary_laws : Laws n 0 false begins_expr ends_primary (λ m. Choice (UnaryBy bytes (E m) (A m))) (choice (unary_by bytes e a))
    unary_laws = choice_laws n 0 1 begins_expr ends_primary (λ k m. UnaryBy bytes (E m) (A m) k) (unary_by bytes e a) (omega arith) unary_laws_by (λ m l. expr_sample E A m)

  -- the five levels of operators
  pub expr_by_laws : (n : ℕ) (E : ℕ → Grammar ExprTree) (A : ℕ → Grammar (List ExprTree)) (e : Reading ExprTree) (a : Reading (List ExprTree)) → Laws n 1 false (is kind.OpenParenthesis) any_kind E e → Laws n 1 false (is kind.OpenParenthesis) any_kind A a
      → Laws n 0 false begins_expr ends_expr (λ m. ExprOf bytes (E m) (A m)) (expr_by bytes e a)
  unfolding ExprOf expr_by ands compares sums products
  expr_by_laws n E A e a p q =
      run_laws or_operators ends_expr kind.Or refl refl refl refl refl
      (run_laws and_operators ends_and kind.And refl refl refl refl refl
      (once_laws comparisons ends_compare kind.Less refl refl refl refl refl
      (run_laws sum_operators ends_sum kind.Plus refl refl refl refl refl
      (run_laws product_operators ends_product kind.Star refl refl refl refl refl (unary_laws n E A e a p q)))))

  -- an expression is always spelled
  expr_by_begins : (E : ℕ → Grammar ExprTree) (A : ℕ → Grammar (List ExprTree)) (m : ℕ) → Begins (ExprOf bytes (E m) (A m)) []
  unfolding ExprOf
  expr_by_begins E A m =
      run_begins or_operators (RunOf and_operators (OnceOf comparisons (RunOf sum_operators (RunOf product_operators (Choice (UnaryBy bytes (E m) (A m)))))))
      (run_begins and_operators (OnceOf comparisons (RunOf sum_operators (RunOf product_operators (Choice (UnaryBy bytes (E m) (A m))))))
      (once_begins comparisons (RunOf sum_operators (RunOf product_operators (Choice (UnaryBy bytes (E m) (A m)))))
      (run_begins sum_operators (RunOf product_operators (Choice (UnaryBy bytes (E m) (A m))))
      (run_begins product_operators (Choice (UnaryBy bytes (E m) (A m))) (expr_sample E A m)))))

  -- arguments in parentheses
  unfoldable pub Arguments : ℕ → Grammar (List ExprTree)
  Arguments m = Between kind.OpenParenthesis kind.CloseParenthesis (Inside (λ j. Listed (Expr bytes j)) m)

  -- an expression by what stands in its parentheses, read from there
  expr_to : (m : ℕ) (b : List Token) (x : ExprTree) → ExprOf bytes (ParenthesizedExpr bytes m) (Arguments m) b x → Expr bytes m b x
  unfolding Expr ParenthesizedExpr Arguments
  expr_to zero b x h = h
  expr_to (suc m) b x h = h

  -- and to there
  expr_from : (m : ℕ) (b : List Token) (x : ExprTree) → Expr bytes m b x → ExprOf bytes (ParenthesizedExpr bytes m) (Arguments m) b x
  unfolding Expr ParenthesizedExpr Arguments
  expr_from zero b x h = h
  expr_from (suc m) b x h = h

  -- an expression is spelled, whatever bracket may be open
  pub expr_begins : (m : ℕ) → Begins (Expr bytes m) []
  expr_begins m = let q = expr_by_begins (ParenthesizedExpr bytes) Arguments m in (q.0, q.1, expr_to m ([] ++ q.0) q.1 q.2)

  -- expressions by what reads in their parentheses
  expr_laws_by : (n : ℕ) (e : Option (Reading ExprTree)) (a : Option (Reading (List ExprTree))) → InsideLaws n 0 false begins_expr ends_expr (Expr bytes) e → InsideLaws n 0 true begins_expr (is kind.CloseParenthesis) (λ j. Listed (Expr bytes j)) a
      → Laws n 0 false begins_expr ends_expr (Expr bytes) (expr_by bytes (in_parentheses e) (in_parentheses a))
  unfolding ParenthesizedExpr Arguments
  expr_laws_by n e a p q =
      laws_as n 0 false begins_expr ends_expr (λ m. ExprOf bytes (ParenthesizedExpr bytes m) (Arguments m)) (Expr bytes) (expr_by bytes (in_parentheses e) (in_parentheses a)) expr_to expr_from
      (expr_by_laws n (ParenthesizedExpr bytes) Arguments (in_parentheses e) (in_parentheses a)
      (between_laws n 0 false begins_expr ends_expr kind.OpenParenthesis kind.CloseParenthesis parentheses (omega arith) (Expr bytes) e p refl)
      (between_laws n 0 true begins_expr (is kind.CloseParenthesis) kind.OpenParenthesis kind.CloseParenthesis parentheses (omega arith) (λ j. Listed (Expr bytes j)) a q refl))

  -- lists of expressions
  pub list_of_expr : {n : ℕ} {r : Reading ExprTree} → Laws n 0 false begins_expr ends_expr (Expr bytes) r → Laws n 0 true begins_expr (is kind.CloseParenthesis) (λ j. Listed (Expr bytes j)) (listed r)
  list_of_expr l = listed_laws (omega arith) refl refl refl refl l

  -- expressions
  pub expr_laws : (n : ℕ) → Laws n 0 false begins_expr ends_expr (Expr bytes) (expr bytes n)
  unfolding expr
  expr_laws zero = expr_laws_by 0 None None (λ m l. expr_begins m) (λ m l. listed_begins (Expr bytes m))
  expr_laws (suc n) = expr_laws_by (suc n) (Some (expr bytes n)) (Some (listed (expr bytes n))) (expr_laws n) (list_of_expr (expr_laws n))

  -- an expression in parentheses
  pub parenthesized_laws : (n : ℕ) → Laws n 1 false (is kind.OpenParenthesis) any_kind (ParenthesizedExpr bytes) (parenthesized_expr bytes n)
  unfolding ParenthesizedExpr parenthesized_expr
  parenthesized_laws n = between_laws n 0 false begins_expr ends_expr kind.OpenParenthesis kind.CloseParenthesis parentheses (omega arith) (Expr bytes) (inside (expr bytes) n) (inside_of (expr bytes) expr_laws n) refl
