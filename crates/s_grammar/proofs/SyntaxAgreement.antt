-- Readings of productions agree where no bracket too many is found.
use Rattle.std.proofs.Common.{ℕ, zero, suc, ◌≤◌, if◌then◌else◌, inr, List, drop, Option, Some, None, refl, arith}
use Rattle.s_syntax.specs.declared.statement.Use.TheVariants as use_for
use Rattle.s_syntax.specs.BlockTree.{BlockTree, Evaluate, Fail}
use Rattle.s_syntax.specs.ExprTree.{ExprTree, Literal, Unary}
use Rattle.s_syntax.specs.declared.operators.UnaryOperator.TheVariants as unary
use Rattle.s_syntax.specs.declared.token.Kind.{Kind}
use Rattle.s_syntax.specs.declared.token.Kind.TheVariants as kind
use Rattle.s_grammar.specs.Kinds.{Kinds, other_than, is, kind_of}
use Rattle.s_grammar.specs.Operators.{operator_of, or_operators, and_operators, comparisons, sum_operators, product_operators}
use Rattle.s_grammar.specs.Parts.{latter, former, or_nothing, run_of, once_of, read_or_call, do_of, handle_of, resume_of, group_of, let_of, if_of, while_of, assign_of, store_of, take_of, spawn_of, switch_of, block_tree, clause_of, return_clause_of, function_of, handler_of, effect_of, slots_of, script_of}
use Rattle.s_grammar.specs.Reading.{Reading, image, in_turn, maybe, many, cons, one, Refused, Wrong, inside}
use Rattle.s_grammar.specs.Reads.{led, key, ended, listed, run, once, ahead, primary_by, name, int, unary_by, expr_by, ands, compares, sums, products, in_parentheses, expr, parenthesized_expr, statement_by, assigned, evaluated, statements_by, block, parameters, parameter, names, clause, value_name, return_clause, clauses, declaration_by, script, declarations}
use Rattle.s_grammar.proofs.Agreement.{agree_image, agree_in_turn, agree_maybe, agree_many, agree_same, agree_cond, AgreeInside, agree_choice, agree_between}
use Rattle.s_grammar.proofs.ReadingLaws.{Agree}

-- what is made of a part
image_agrees : {A B : Type 0} {r s : Reading A} (f : A → B) → Agree r s → Agree (image f r) (image f s)
image_agrees {r = r} {s = s} f h = agree_image f r s h

-- one behind another
in_turn_agrees : {A B : Type 0} {r r' : Reading A} {s s' : Reading B} → Agree r r' → Agree s s' → Agree (in_turn r s) (in_turn r' s')
in_turn_agrees {r = r} {r' = r'} {s = s} {s' = s'} h k = agree_in_turn r r' s s' h k

-- a part or nothing
maybe_agrees : {A : Type 0} {r s : Reading A} (go : Kinds) → Agree r s → Agree (maybe go r) (maybe go s)
maybe_agrees {r = r} {s = s} go h = agree_maybe go r s h

-- any number of parts
many_agrees : {A : Type 0} {r s : Reading A} (go : Kinds) → Agree r s → Agree (many go r) (many go s)
many_agrees {r = r} {s = s} go h = agree_many go r s h

-- a part behind a token
led_agrees : {A : Type 0} {r s : Reading A} (k : Kind) → Agree r s → Agree (led k r) (led k s)
unfolding led
led_agrees k h = image_agrees latter (in_turn_agrees (agree_same (key k)) h)

-- a part with a token behind it
ended_agrees : {A : Type 0} {r s : Reading A} (k : Kind) → Agree r s → Agree (ended r k) (ended s k)
unfolding ended
ended_agrees k h = image_agrees former (in_turn_agrees h (agree_same (key k)))

-- a list with commas between
listed_agrees : {A : Type 0} {r s : Reading A} → Agree r s → Agree (listed r) (listed s)
unfolding listed
listed_agrees h = image_agrees or_nothing (maybe_agrees (other_than (is kind.CloseParenthesis)) (image_agrees cons (in_turn_agrees h (many_agrees (is kind.Comma) (led_agrees kind.Comma h)))))

-- a run of operators
run_agree : {r s : Reading ExprTree} (ops : Kinds) → Agree r s → Agree (run ops r) (run ops s)
unfolding run
run_agree ops h = image_agrees run_of (in_turn_agrees h (many_agrees ops (in_turn_agrees (agree_same (one ops operator_of)) h)))

-- at most one operator
once_agree : {r s : Reading ExprTree} (ops : Kinds) → Agree r s → Agree (once ops r) (once ops s)
unfolding once
once_agree ops h = image_agrees once_of (in_turn_agrees h (maybe_agrees ops (in_turn_agrees (agree_same (one ops operator_of)) h)))

-- by the second token
ahead_agree : {A : Type 0} {r r' s s' : Reading A} (k j : Kind) → Agree r r' → Agree s s' → Agree (ahead k j r s) (ahead k j r' s')
ahead_agree {r = r} {r' = r'} {s = s} {s' = s'} k j h i ts =
    agree_cond (is k (kind_of ts)) (if is j (kind_of (drop 1 ts)) then r ts else s ts) (if is j (kind_of (drop 1 ts)) then r' ts else s' ts) (Refused Wrong ts) (Refused Wrong ts)
    (agree_cond (is j (kind_of (drop 1 ts))) (r ts) (r' ts) (s ts) (s' ts) (h ts) (i ts)) (inr refl)

-- what stands in brackets
inside_agree : {A : Type 0} (r : ℕ → Reading A) → ((n m : ℕ) → n ≤ m → Agree (r n) (r m)) → (n m : ℕ) → n ≤ m → AgreeInside (inside r n) (inside r m)
inside_agree r h zero m l = tt
inside_agree r h (suc n) zero l = absurd (omega arith)
inside_agree r h (suc n) (suc m) l = h n m (omega arith)

module _ (bytes : List ℕ) where
  -- operands without an operator in front
  primary_agree : (e e' : Reading ExprTree) (a a' : Reading (List ExprTree)) → Agree e e' → Agree a a' → (k : Kind) → Agree (primary_by bytes e a k) (primary_by bytes e' a' k)
  unfolding primary_by
  primary_agree e e' a a' h i kind.Name = image_agrees read_or_call (in_turn_agrees (agree_same (name bytes)) (maybe_agrees (is kind.OpenParenthesis) i))
  primary_agree e e' a a' h i kind.OpenParenthesis = h
  primary_agree e e' a a' h i kind.Do = image_agrees do_of (led_agrees kind.Do (in_turn_agrees (agree_same (name bytes)) i))
  primary_agree e e' a a' h i kind.Handle = image_agrees handle_of (led_agrees kind.Handle (in_turn_agrees (agree_same (name bytes)) (in_turn_agrees i (led_agrees kind.With (in_turn_agrees (agree_same (name bytes)) i)))))
  primary_agree e e' a a' h i kind.Resume = image_agrees resume_of (led_agrees kind.Resume (in_turn_agrees (agree_same (name bytes)) (in_turn_agrees h (led_agrees kind.With i))))
  primary_agree e e' a a' h i kind.Group = image_agrees group_of (led_agrees kind.Group (in_turn_agrees (agree_same (name bytes)) h))
  primary_agree e e' a a' h i k = agree_same (image Literal (int bytes))

  -- operands
  unary_agree : (e e' : Reading ExprTree) (a a' : Reading (List ExprTree)) → Agree e e' → Agree a a' → (k : Kind) → Agree (unary_by bytes e a k) (unary_by bytes e' a' k)
  unfolding unary_by
  unary_agree e e' a a' h i kind.Minus = image_agrees (λ t. Unary unary.Minus t) (led_agrees kind.Minus (agree_choice (primary_by bytes e a) (primary_by bytes e' a') (primary_agree e e' a a' h i)))
  unary_agree e e' a a' h i kind.Not = image_agrees (λ t. Unary unary.Not t) (led_agrees kind.Not (agree_choice (primary_by bytes e a) (primary_by bytes e' a') (primary_agree e e' a a' h i)))
  unary_agree e e' a a' h i k = primary_agree e e' a a' h i k

  -- the five levels of operators
  expr_by_agree : (e e' : Reading ExprTree) (a a' : Reading (List ExprTree)) → Agree e e' → Agree a a' → Agree (expr_by bytes e a) (expr_by bytes e' a')
  unfolding expr_by ands compares sums products
  expr_by_agree e e' a a' h i = run_agree or_operators (run_agree and_operators (once_agree comparisons (run_agree sum_operators (run_agree product_operators (agree_choice (unary_by bytes e a) (unary_by bytes e' a') (unary_agree e e' a a' h i))))))

  -- expressions by what reads in their parentheses
  expr_inside : (e e' : Option (Reading ExprTree)) (a a' : Option (Reading (List ExprTree))) → AgreeInside e e' → AgreeInside a a' → Agree (expr_by bytes (in_parentheses e) (in_parentheses a)) (expr_by bytes (in_parentheses e') (in_parentheses a'))
  expr_inside e e' a a' h i = expr_by_agree (in_parentheses e) (in_parentheses e') (in_parentheses a) (in_parentheses a') (agree_between kind.OpenParenthesis kind.CloseParenthesis e e' h) (agree_between kind.OpenParenthesis kind.CloseParenthesis a a' i)

  -- expressions
  pub expr_agree : (n m : ℕ) → n ≤ m → Agree (expr bytes n) (expr bytes m)
  unfolding expr
  expr_agree zero zero l = agree_same (expr bytes zero)
  expr_agree zero (suc m) l = expr_inside None (Some (expr bytes m)) None (Some (listed (expr bytes m))) tt tt
  expr_agree (suc n) zero l = absurd (omega arith)
  expr_agree (suc n) (suc m) l = expr_inside (Some (expr bytes n)) (Some (expr bytes m)) (Some (listed (expr bytes n))) (Some (listed (expr bytes m))) (expr_agree n m (omega arith)) (listed_agrees (expr_agree n m (omega arith)))

  -- expressions in parentheses
  parenthesized_agree : (n m : ℕ) → n ≤ m → Agree (parenthesized_expr bytes n) (parenthesized_expr bytes m)
  unfolding parenthesized_expr
  parenthesized_agree n m l = agree_between kind.OpenParenthesis kind.CloseParenthesis (inside (expr bytes) n) (inside (expr bytes) m) (inside_agree (expr bytes) expr_agree n m l)

  -- statements by their first token
  statement_agree : (e e' p p' : Reading ExprTree) (b b' : Reading BlockTree) → Agree e e' → Agree p p' → Agree b b' → (k : Kind) → Agree (statement_by bytes e p b k) (statement_by bytes e' p' b' k)
  unfolding statement_by assigned evaluated
  statement_agree e e' p p' b b' h j i kind.Let = image_agrees let_of (led_agrees kind.Let (in_turn_agrees (agree_same (name bytes)) (led_agrees kind.Assign (ended_agrees kind.Semicolon h))))
  statement_agree e e' p p' b b' h j i kind.If = image_agrees if_of (led_agrees kind.If (in_turn_agrees h (in_turn_agrees i (maybe_agrees (is kind.Else) (led_agrees kind.Else i)))))
  statement_agree e e' p p' b b' h j i kind.While = image_agrees while_of (led_agrees kind.While (in_turn_agrees h i))
  statement_agree e e' p p' b b' h j i kind.Print = image_agrees (λ t. Evaluate use_for.Print t) (led_agrees kind.Print (ended_agrees kind.Semicolon h))
  statement_agree e e' p p' b b' h j i kind.Return = image_agrees (λ t. Evaluate use_for.Return t) (led_agrees kind.Return (ended_agrees kind.Semicolon h))
  statement_agree e e' p p' b b' h j i kind.Fail = agree_same (image (λ _. Fail) (led kind.Fail (key kind.Semicolon)))
  statement_agree e e' p p' b b' h j i kind.Store =
      image_agrees store_of
      (led_agrees kind.Store
      (in_turn_agrees (agree_same (name bytes)) (led_agrees kind.OpenBracket (in_turn_agrees (ended_agrees kind.CloseBracket h) (agree_same (led kind.Assign (ended (name bytes) kind.Semicolon)))))))
  statement_agree e e' p p' b b' h j i kind.Take =
      image_agrees take_of
      (led_agrees kind.Take
      (in_turn_agrees (agree_same (name bytes)) (led_agrees kind.Assign (in_turn_agrees (agree_same (name bytes)) (led_agrees kind.OpenBracket (ended_agrees kind.Semicolon (ended_agrees kind.CloseBracket h)))))))
  statement_agree e e' p p' b b' h j i kind.Spawn = agree_same (image spawn_of (led kind.Spawn (in_turn (name bytes) (led kind.Assign (ended (name bytes) kind.Semicolon)))))
  statement_agree e e' p p' b b' h j i kind.Switch =
      image_agrees switch_of
      (led_agrees kind.Switch
      (in_turn_agrees (agree_same (name bytes)) (led_agrees kind.Comma (in_turn_agrees (agree_same (name bytes)) (led_agrees kind.Assign (in_turn_agrees (agree_same (name bytes)) (ended_agrees kind.Semicolon j)))))))
  statement_agree e e' p p' b b' h j i kind.Name = ahead_agree kind.Name kind.Assign (image_agrees assign_of (in_turn_agrees (agree_same (name bytes)) (led_agrees kind.Assign (ended_agrees kind.Semicolon h)))) (image_agrees (λ t. Evaluate use_for.Drop t) (ended_agrees kind.Semicolon h))
  statement_agree e e' p p' b b' h j i k = image_agrees (λ t. Evaluate use_for.Drop t) (ended_agrees kind.Semicolon h)

  -- any number of statements
  statements_agree : (e e' p p' : Reading ExprTree) (b b' : Reading BlockTree) → Agree e e' → Agree p p' → Agree b b' → Agree (statements_by bytes e p b) (statements_by bytes e' p' b')
  unfolding statements_by
  statements_agree e e' p p' b b' h j i = image_agrees block_tree (many_agrees (other_than (is kind.CloseBrace)) (agree_choice (statement_by bytes e p b) (statement_by bytes e' p' b') (statement_agree e e' p p' b b' h j i)))

  -- blocks
  pub block_agree : (n m : ℕ) → n ≤ m → Agree (block bytes n) (block bytes m)
  unfolding block
  block_agree zero zero l = agree_same (block bytes zero)
  block_agree zero (suc m) l = agree_between kind.OpenBrace kind.CloseBrace None (Some (statements_by bytes (expr bytes m) (parenthesized_expr bytes m) (block bytes m))) tt
  block_agree (suc n) zero l = absurd (omega arith)
  block_agree (suc n) (suc m) l = agree_between kind.OpenBrace kind.CloseBrace (Some (statements_by bytes (expr bytes n) (parenthesized_expr bytes n) (block bytes n))) (Some (statements_by bytes (expr bytes m) (parenthesized_expr bytes m) (block bytes m))) (statements_agree (expr bytes n) (expr bytes m) (parenthesized_expr bytes n) (parenthesized_expr bytes m) (block bytes n) (block bytes m) (expr_agree n m (omega arith)) (parenthesized_agree n m (omega arith)) (block_agree n m (omega arith)))

  -- parameters in parentheses
  parameters_agree : (n m : ℕ) → n ≤ m → Agree (parameters bytes n) (parameters bytes m)
  unfolding parameters
  parameters_agree n m l = agree_between kind.OpenParenthesis kind.CloseParenthesis (inside (λ _. listed (parameter bytes)) n) (inside (λ _. listed (parameter bytes)) m) (inside_agree (λ _. listed (parameter bytes)) (λ j k i. agree_same (listed (parameter bytes))) n m l)

  -- names in parentheses
  names_agree : (n m : ℕ) → n ≤ m → Agree (names bytes n) (names bytes m)
  unfolding names
  names_agree n m l = agree_between kind.OpenParenthesis kind.CloseParenthesis (inside (λ _. listed (name bytes)) n) (inside (λ _. listed (name bytes)) m) (inside_agree (λ _. listed (name bytes)) (λ j k i. agree_same (listed (name bytes))) n m l)

  -- clauses for effects
  clause_agree : (n m : ℕ) → n ≤ m → Agree (clause bytes n) (clause bytes m)
  unfolding clause
  clause_agree n m l = image_agrees clause_of (led_agrees kind.On (in_turn_agrees (agree_same (name bytes)) (in_turn_agrees (names_agree n m l) (in_turn_agrees (agree_same (name bytes)) (block_agree n m l)))))

  -- a name in parentheses
  value_name_agree : (n m : ℕ) → n ≤ m → Agree (value_name bytes n) (value_name bytes m)
  unfolding value_name
  value_name_agree n m l = agree_between kind.OpenParenthesis kind.CloseParenthesis (inside (λ _. name bytes) n) (inside (λ _. name bytes) m) (inside_agree (λ _. name bytes) (λ j k i. agree_same (name bytes)) n m l)

  -- clauses for the value returned
  return_clause_agree : (n m : ℕ) → n ≤ m → Agree (return_clause bytes n) (return_clause bytes m)
  unfolding return_clause
  return_clause_agree n m l = image_agrees return_clause_of (led_agrees kind.Return (in_turn_agrees (value_name_agree n m l) (block_agree n m l)))

  -- all clauses of a handler
  clauses_agree : (n m : ℕ) → n ≤ m → Agree (clauses bytes n) (clauses bytes m)
  unfolding clauses
  clauses_agree n m l = in_turn_agrees (return_clause_agree n m l) (many_agrees (is kind.On) (clause_agree n m l))

  -- declarations by their first token
  declaration_agree : (n m : ℕ) → n ≤ m → (k : Kind) → Agree (declaration_by bytes n k) (declaration_by bytes m k)
  unfolding declaration_by
  declaration_agree n m l kind.Fn = image_agrees function_of (led_agrees kind.Fn (in_turn_agrees (agree_same (name bytes)) (in_turn_agrees (parameters_agree n m l) (block_agree n m l))))
  declaration_agree n m l kind.Handler =
      image_agrees handler_of
      (led_agrees kind.Handler (in_turn_agrees (agree_same (name bytes)) (in_turn_agrees (parameters_agree n m l) (agree_between kind.OpenBrace kind.CloseBrace (inside (clauses bytes) n) (inside (clauses bytes) m) (inside_agree (clauses bytes) clauses_agree n m l)))))
  declaration_agree n m l kind.Slots = agree_same (image slots_of (led kind.Slots (in_turn (name bytes) (led kind.Colon (led kind.Res (in_turn (name bytes) (led kind.OpenBracket (ended (ended (int bytes) kind.CloseBracket) kind.Semicolon))))))))
  declaration_agree n m l k = agree_same (image effect_of (led kind.Effect (in_turn (name bytes) (led kind.Slash (ended (int bytes) kind.Semicolon)))))

  -- scripts
  pub script_agree : (n m : ℕ) → n ≤ m → Agree (script bytes n) (script bytes m)
  unfolding script declarations
  script_agree n m l = image_agrees script_of (many_agrees (other_than (is kind.End)) (agree_choice (declaration_by bytes n) (declaration_by bytes m) (declaration_agree n m l)))
