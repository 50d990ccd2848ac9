-- The laws of statements and blocks.
use Rattle.std.proofs.Common.{◌≡◌, ℕ, zero, suc, true, false, List, [], ◌∷◌, Option, Some, None, refl, ap, arith}
use Rattle.s_syntax.specs.declared.statement.Use.TheVariants as use_for
use Rattle.s_syntax.specs.BlockTree.{BlockTree, StatementTree, Evaluate, Fail}
use Rattle.s_syntax.specs.declared.token.Kind.{Kind}
use Rattle.s_syntax.specs.declared.token.Kind.TheVariants as kind
use Rattle.s_syntax.specs.declared.token.Token.{Token}
use Rattle.s_grammar.specs.Grammar.{Grammar, Choice, Between, Inside}
use Rattle.s_grammar.specs.Kinds.{kind_of, is, other_than}
use Rattle.s_grammar.specs.Parts.{let_of, store_of, take_of, spawn_of, switch_of, if_of, while_of, block_tree}
use Rattle.s_grammar.specs.Reading.{Reading, choice}
use Rattle.s_grammar.specs.Reads.{expr, parenthesized_expr, ended, name, statement_by, statements_by, in_braces, block}
use Rattle.s_grammar.specs.Syntax.{StatementBy, Expr, ParenthesizedExpr, ClosedBy, NAME, StatementsOf, Block}
use Rattle.s_grammar.proofs.Choices.{choice_laws}
use Rattle.s_grammar.proofs.Enclosures.{InsideLaws, between_laws}
use Rattle.s_grammar.proofs.Ends.{begins_expr, ends_expr, begins_statement, ends_statement}
use Rattle.s_grammar.proofs.ExprLaws.{expr_laws, name_laws, parenthesized_laws}
use Rattle.s_grammar.proofs.ForParts.{wider_of, image_of, led_laws, in_turn_of, maybe_of, key_laws, many_of, braces, ended_laws}
use Rattle.s_grammar.proofs.Images.{deeper_laws, laws_as, fewer_laws}
use Rattle.s_grammar.proofs.KindSets.{any_kind}
use Rattle.s_grammar.proofs.ReadingLaws.{Begins, Laws}
use Rattle.s_grammar.proofs.NamedStatements.{NameOf, semicolon, end_laws, named, name_of_laws, semicolon_laws}
use Rattle.s_grammar.proofs.OneToken.{token_of}

module _ (bytes : List ℕ) where
  -- a statement by its first token
  PickedBy : (ℕ → Grammar BlockTree) → Kind → ℕ → Grammar StatementTree
  PickedBy B kind.Name = NameOf bytes
  PickedBy B k = λ m. StatementBy bytes (Expr bytes m) (ParenthesizedExpr bytes m) (B m) k

  -- a statement with its name known, as one of the grammar
  picked_to : (B : ℕ → Grammar BlockTree) (m : ℕ) (k : Kind) (b : List Token) (x : StatementTree) → PickedBy B k m b x → StatementBy bytes (Expr bytes m) (ParenthesizedExpr bytes m) (B m) k b x
  unfolding PickedBy StatementBy NameOf
  picked_to B m kind.Name b x h = h.1
  picked_to B m k b x h = h

  -- and back
  picked_from : (B : ℕ → Grammar BlockTree) (m : ℕ) (k : Kind) (b : List Token) (x : StatementTree) → kind_of b ≡ k → StatementBy bytes (Expr bytes m) (ParenthesizedExpr bytes m) (B m) k b x → PickedBy B k m b x
  unfolding PickedBy StatementBy NameOf
  picked_from B m kind.Name b x e h = (ap (is kind.Name) e, h)
  picked_from B m k b x e h = h

  -- for any first token
  choice_picked_to : (B : ℕ → Grammar BlockTree) (m : ℕ) (b : List Token) (x : StatementTree) → Choice (λ k. PickedBy B k m) b x → Choice (StatementBy bytes (Expr bytes m) (ParenthesizedExpr bytes m) (B m)) b x
  choice_picked_to B m [] x h = h
  choice_picked_to B m (t ∷ b) x h = picked_to B m t.kind (t ∷ b) x h

  -- and back
  choice_picked_from : (B : ℕ → Grammar BlockTree) (m : ℕ) (b : List Token) (x : StatementTree) → Choice (StatementBy bytes (Expr bytes m) (ParenthesizedExpr bytes m) (B m)) b x → Choice (λ k. PickedBy B k m) b x
  choice_picked_from B m [] x h = h
  choice_picked_from B m (t ∷ b) x h = picked_from B m t.kind (t ∷ b) x refl h

  -- a statement is always spelled
  fail_begins : (B : ℕ → Grammar BlockTree) (m : ℕ) → Begins (Choice (λ k. PickedBy B k m)) []
  unfolding PickedBy StatementBy
  fail_begins B m =
      let t : Token = token_of kind.Fail in
      (t ∷ semicolon ∷ [], Fail, (semicolon, ((t, semicolon), (t ∷ [], semicolon ∷ [], refl, (t, refl, refl, refl), (semicolon, refl, refl, refl)), refl), refl))

  module _ (n : ℕ) (B : ℕ → Grammar BlockTree) (b : Reading BlockTree) (q : Laws n 1 false (is kind.OpenBrace) any_kind B b) where
    -- an expression, where one bracket may be open
    expr_one : Laws n 1 false begins_expr ends_expr (Expr bytes) (expr bytes n)
    expr_one = deeper_laws 1 (omega arith) (expr_laws bytes n)

    -- an expression and a semicolon, where one may be
    ended_one : Laws n 1 false begins_expr any_kind (λ m. ClosedBy (Expr bytes m) kind.Semicolon) (ended (expr bytes n) kind.Semicolon)
    ended_one = deeper_laws 1 (omega arith) (end_laws bytes n)

    -- an expression and a bracket, where one may be
    bracketed_one : Laws n 1 false begins_expr any_kind (λ m. ClosedBy (Expr bytes m) kind.CloseBracket) (ended (expr bytes n) kind.CloseBracket)
    bracketed_one = ended_laws kind.CloseBracket (omega arith) refl refl refl expr_one

    -- a name, where one bracket may be open
    name_one : Laws n 1 false (is kind.Name) any_kind (λ m. NAME bytes) (name bytes)
    name_one = deeper_laws 1 (omega arith) (name_laws bytes n)

    -- statements by their first token
    picked_laws : (k : Kind) → Laws n 1 false begins_statement ends_statement (PickedBy B k) (statement_by bytes (expr bytes n) (parenthesized_expr bytes n) b k)
    unfolding PickedBy StatementBy statement_by named
    picked_laws kind.Let = wider_of begins_statement ends_statement refl refl (image_of let_of (led_laws kind.Let (omega arith) refl refl refl (in_turn_of (omega arith) name_one (led_laws kind.Assign (omega arith) refl refl refl ended_one) refl)))
    picked_laws kind.If =
        wider_of begins_statement ends_statement refl refl
        (image_of if_of
        (led_laws kind.If (omega arith) refl refl refl
        (in_turn_of (omega arith) expr_one (in_turn_of (omega arith) q (deeper_laws 1 (omega arith) (maybe_of (is kind.Else) refl (led_laws kind.Else (omega arith) refl refl refl q))) refl) refl)))
    picked_laws kind.While = wider_of begins_statement ends_statement refl refl (image_of while_of (led_laws kind.While (omega arith) refl refl refl (in_turn_of (omega arith) expr_one q refl)))
    picked_laws kind.Print = wider_of begins_statement ends_statement refl refl (image_of (λ t. Evaluate use_for.Print t) (led_laws kind.Print (omega arith) refl refl refl ended_one))
    picked_laws kind.Return = wider_of begins_statement ends_statement refl refl (image_of (λ t. Evaluate use_for.Return t) (led_laws kind.Return (omega arith) refl refl refl ended_one))
    picked_laws kind.Fail = wider_of begins_statement ends_statement refl refl (image_of (λ _. Fail) (led_laws kind.Fail (omega arith) refl refl refl (deeper_laws 1 (omega arith) (key_laws n kind.Semicolon refl refl))))
    picked_laws kind.Store =
        wider_of begins_statement ends_statement refl refl
        (image_of store_of
        (led_laws kind.Store (omega arith) refl refl refl
        (in_turn_of (omega arith) name_one
        (led_laws kind.OpenBracket (omega arith) refl refl refl
        (in_turn_of (omega arith) bracketed_one (led_laws kind.Assign (omega arith) refl refl refl (ended_laws kind.Semicolon (omega arith) refl refl refl name_one)) refl)) refl)))
    picked_laws kind.Take =
        wider_of begins_statement ends_statement refl refl
        (image_of take_of
        (led_laws kind.Take (omega arith) refl refl refl
        (in_turn_of (omega arith) name_one
        (led_laws kind.Assign (omega arith) refl refl refl
        (in_turn_of (omega arith) name_one (led_laws kind.OpenBracket (omega arith) refl refl refl (ended_laws kind.Semicolon (omega arith) refl refl refl bracketed_one)) refl)) refl)))
    picked_laws kind.Spawn =
        wider_of begins_statement ends_statement refl refl
        (image_of spawn_of (led_laws kind.Spawn (omega arith) refl refl refl (in_turn_of (omega arith) name_one (led_laws kind.Assign (omega arith) refl refl refl (ended_laws kind.Semicolon (omega arith) refl refl refl name_one)) refl)))
    picked_laws kind.Switch =
        wider_of begins_statement ends_statement refl refl
        (image_of switch_of
        (led_laws kind.Switch (omega arith) refl refl refl
        (in_turn_of (omega arith) name_one
        (led_laws kind.Comma (omega arith) refl refl refl
        (in_turn_of (omega arith) name_one
        (led_laws kind.Assign (omega arith) refl refl refl
        (in_turn_of (omega arith) name_one (ended_laws kind.Semicolon (omega arith) refl refl refl (parenthesized_laws bytes n)) refl)) refl)) refl)))
    picked_laws kind.Name = wider_of begins_statement ends_statement refl refl (deeper_laws 1 (omega arith) (name_of_laws bytes n))
    picked_laws k = wider_of begins_statement ends_statement refl refl (deeper_laws 1 (omega arith) (semicolon_laws bytes n))

    -- statements
    pub statement_laws : Laws n 0 false begins_statement ends_statement (λ m. Choice (StatementBy bytes (Expr bytes m) (ParenthesizedExpr bytes m) (B m))) (choice (statement_by bytes (expr bytes n) (parenthesized_expr bytes n) b))
    statement_laws =
        laws_as n 0 false begins_statement ends_statement (λ m. Choice (λ k. PickedBy B k m)) (λ m. Choice (StatementBy bytes (Expr bytes m) (ParenthesizedExpr bytes m) (B m))) (choice (statement_by bytes (expr bytes n) (parenthesized_expr bytes n) b)) (choice_picked_to B) (choice_picked_from B)
        (choice_laws n 0 1 begins_statement ends_statement (PickedBy B) (statement_by bytes (expr bytes n) (parenthesized_expr bytes n) b) (omega arith) picked_laws (λ m l. fail_begins B m))

    -- any number of statements
    statements_laws : Laws n 0 true begins_statement (is kind.CloseBrace) (λ m. StatementsOf bytes (Expr bytes m) (ParenthesizedExpr bytes m) (B m)) (statements_by bytes (expr bytes n) (parenthesized_expr bytes n) b)
    unfolding statements_by
    statements_laws = fewer_laws (is kind.CloseBrace) refl (image_of block_tree (many_of (other_than (is kind.CloseBrace)) refl refl statement_laws))

  -- what stands in braces, with them
  BracedBlock : ℕ → Grammar BlockTree
  BracedBlock m = Between kind.OpenBrace kind.CloseBrace (Inside (λ j. StatementsOf bytes (Expr bytes j) (ParenthesizedExpr bytes j) (Block bytes j)) m)

  -- a block by what stands in its braces, read from there
  braced_block_to : (m : ℕ) (b : List Token) (x : BlockTree) → BracedBlock m b x → Block bytes m b x
  unfolding BracedBlock Block
  braced_block_to zero b x h = h
  braced_block_to (suc m) b x h = h

  -- and to there
  braced_block_from : (m : ℕ) (b : List Token) (x : BlockTree) → Block bytes m b x → BracedBlock m b x
  unfolding BracedBlock Block
  braced_block_from zero b x h = h
  braced_block_from (suc m) b x h = h

  -- blocks by what reads in their braces
  block_by : (n : ℕ) (r : Option (Reading BlockTree)) → InsideLaws n 0 true begins_statement (is kind.CloseBrace) (λ j. StatementsOf bytes (Expr bytes j) (ParenthesizedExpr bytes j) (Block bytes j)) r → Laws n 1 false (is kind.OpenBrace) any_kind (Block bytes) (in_braces r)
  unfolding BracedBlock
  block_by n r p =
      laws_as n 1 false (is kind.OpenBrace) any_kind BracedBlock (Block bytes) (in_braces r) braced_block_to braced_block_from
      (between_laws n 0 true begins_statement (is kind.CloseBrace) kind.OpenBrace kind.CloseBrace braces (omega arith) (λ j. StatementsOf bytes (Expr bytes j) (ParenthesizedExpr bytes j) (Block bytes j)) r p refl)

  -- no statements are spelled
  statements_begin : (m : ℕ) → Begins (StatementsOf bytes (Expr bytes m) (ParenthesizedExpr bytes m) (Block bytes m)) []
  statements_begin m = ([], block_tree [], ([], refl, refl))

  -- blocks
  pub block_laws : (n : ℕ) → Laws n 1 false (is kind.OpenBrace) any_kind (Block bytes) (block bytes n)
  unfolding block
  block_laws zero = block_by 0 None (λ m l. statements_begin m)
  block_laws (suc n) = block_by (suc n) (Some (statements_by bytes (expr bytes n) (parenthesized_expr bytes n) (block bytes n))) (statements_laws n (Block bytes) (block bytes n) (block_laws n))
