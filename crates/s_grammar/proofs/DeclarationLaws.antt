-- The laws of declarations and scripts.
use Rattle.std.proofs.Common.{ℕ, true, false, List, [], ◌∷◌, refl, arith}
use Rattle.s_syntax.specs.declared.script.VariableType.TheVariants as variable
use Rattle.s_syntax.specs.declared.token.Kind.{Kind}
use Rattle.s_syntax.specs.declared.token.Kind.TheVariants as kind
use Rattle.s_syntax.specs.declared.token.Token.{Token}
use Rattle.s_grammar.specs.Grammar.{Choice, Each}
use Rattle.s_grammar.specs.Kinds.{is, other_than}
use Rattle.s_grammar.specs.Parts.{parameter_of, clause_of, return_clause_of, function_of, handler_of, effect_of, slots_of, script_of}
use Rattle.s_grammar.specs.Reading.{choice, inside}
use Rattle.s_grammar.specs.Reads.{type_by, parameter, parameters, listed, names, name, value_name, clause, return_clause, clauses, declaration_by, declarations, script}
use Rattle.s_grammar.specs.Syntax.{TypeBy, ParameterOf, Parameters, Listed, Names, NAME, ValueName, ClauseOf, ReturnClauseOf, Clauses, DeclarationBy, ScriptOf}
use Rattle.s_grammar.specs.Texts.{name_of, number_of}
use Rattle.s_grammar.proofs.Choices.{choice_laws}
use Rattle.s_grammar.proofs.Enclosures.{between_laws}
use Rattle.s_grammar.proofs.Ends.{begins_type, begins_declaration}
use Rattle.s_grammar.proofs.ExprLaws.{name_laws, int_laws}
use Rattle.s_grammar.proofs.ForParts.{key_laws, image_of, in_turn_of, maybe_of, led_laws, parentheses, inside_of, listed_laws, many_of, wider_of, braces, ended_laws}
use Rattle.s_grammar.proofs.Images.{fewer_laws, deeper_laws}
use Rattle.s_grammar.proofs.KindSets.{any_kind}
use Rattle.s_grammar.proofs.ReadingLaws.{Laws, Begins}
use Rattle.s_grammar.proofs.NamedStatements.{semicolon}
use Rattle.s_grammar.proofs.OneToken.{token_of}
use Rattle.s_grammar.proofs.StatementLaws.{block_laws}

module _ (bytes : List ℕ) where
  -- types, by their first token
  type_laws_by : (n : ℕ) (k : Kind) → Laws n 0 false begins_type any_kind (λ m. TypeBy bytes k) (type_by bytes k)
  unfolding TypeBy type_by
  type_laws_by n kind.Coro = wider_of begins_type any_kind refl refl (image_of (λ _. variable.Coroutine) (key_laws n kind.Coro refl refl))
  type_laws_by n k = wider_of begins_type any_kind refl refl (image_of (λ h. variable.Resumption h) (led_laws kind.Res (omega arith) refl refl refl (name_laws bytes n)))

  -- a type is spelled
  coro_begins : Begins (Choice (TypeBy bytes)) []
  unfolding TypeBy
  coro_begins = let t : Token = token_of kind.Coro in (t ∷ [], variable.Coroutine, (t, (t, refl, refl, refl), refl))

  -- types
  type_laws : (n : ℕ) → Laws n 0 false begins_type any_kind (λ m. Choice (TypeBy bytes)) (choice (type_by bytes))
  type_laws n = choice_laws n 0 0 begins_type any_kind (λ k m. TypeBy bytes k) (type_by bytes) (omega arith) (type_laws_by n) (λ m l. coro_begins)

  -- parameters
  pub parameter_laws : (n : ℕ) → Laws n 0 false (is kind.Name) (other_than (is kind.Colon)) (λ m. ParameterOf bytes) (parameter bytes)
  unfolding parameter
  parameter_laws n = fewer_laws (other_than (is kind.Colon)) refl (image_of parameter_of (in_turn_of (omega arith) (name_laws bytes n) (maybe_of (is kind.Colon) refl (led_laws kind.Colon (omega arith) refl refl refl (type_laws n))) refl))

  -- parameters in parentheses
  pub parameters_laws : (n : ℕ) → Laws n 1 false (is kind.OpenParenthesis) any_kind (Parameters bytes) (parameters bytes n)
  unfolding parameters
  parameters_laws n =
      between_laws n 0 true (is kind.Name) (is kind.CloseParenthesis) kind.OpenParenthesis kind.CloseParenthesis parentheses (omega arith) (λ _. Listed (ParameterOf bytes)) (inside (λ _. listed (parameter bytes)) n)
      (inside_of (λ _. listed (parameter bytes)) (λ j. listed_laws (omega arith) refl refl refl refl (parameter_laws j)) n) refl

  -- names in parentheses
  pub names_laws : (n : ℕ) → Laws n 1 false (is kind.OpenParenthesis) any_kind (Names bytes) (names bytes n)
  unfolding names
  names_laws n =
      between_laws n 0 true (is kind.Name) (is kind.CloseParenthesis) kind.OpenParenthesis kind.CloseParenthesis parentheses (omega arith) (λ _. Listed (NAME bytes)) (inside (λ _. listed (name bytes)) n)
      (inside_of (λ _. listed (name bytes)) (λ j. listed_laws (omega arith) refl refl refl refl (name_laws bytes j)) n) refl

  -- a name in parentheses
  pub value_name_laws : (n : ℕ) → Laws n 1 false (is kind.OpenParenthesis) any_kind (ValueName bytes) (value_name bytes n)
  unfolding value_name
  value_name_laws n = between_laws n 0 false (is kind.Name) any_kind kind.OpenParenthesis kind.CloseParenthesis parentheses (omega arith) (λ _. NAME bytes) (inside (λ _. name bytes) n) (inside_of (λ _. name bytes) (name_laws bytes) n) refl

  -- a name, where one bracket may be open
  name_one : (n : ℕ) → Laws n 1 false (is kind.Name) any_kind (λ m. NAME bytes) (name bytes)
  name_one n = deeper_laws 1 (omega arith) (name_laws bytes n)

  -- clauses for effects
  pub clause_laws : (n : ℕ) → Laws n 1 false (is kind.On) any_kind (ClauseOf bytes) (clause bytes n)
  unfolding clause
  clause_laws n =
      image_of clause_of
      (led_laws kind.On (omega arith) refl refl refl (in_turn_of (omega arith) (name_one n) (in_turn_of (omega arith) (names_laws n) (in_turn_of (omega arith) (name_one n) (block_laws bytes n) refl) refl) refl))

  -- clauses for the value returned
  pub return_clause_laws : (n : ℕ) → Laws n 1 false (is kind.Return) any_kind (ReturnClauseOf bytes) (return_clause bytes n)
  unfolding return_clause
  return_clause_laws n = image_of return_clause_of (led_laws kind.Return (omega arith) refl refl refl (in_turn_of (omega arith) (value_name_laws n) (block_laws bytes n) refl))

  -- all clauses of a handler
  pub clauses_laws : (n : ℕ) → Laws n 1 false (is kind.Return) (other_than (is kind.On)) (Clauses bytes) (clauses bytes n)
  unfolding clauses
  clauses_laws n =
      fewer_laws (other_than (is kind.On)) refl
      (in_turn_of (omega arith) (return_clause_laws n) (deeper_laws 1 (omega arith) (many_of (is kind.On) refl refl (clause_laws n))) refl)

  -- declarations, by their first token
  pub declaration_laws_by : (n : ℕ) (k : Kind) → Laws n 2 false begins_declaration any_kind (λ m. DeclarationBy bytes m k) (declaration_by bytes n k)
  unfolding DeclarationBy declaration_by
  declaration_laws_by n kind.Fn =
      wider_of begins_declaration any_kind refl refl
      (image_of function_of (deeper_laws 2 (omega arith) (led_laws kind.Fn (omega arith) refl refl refl (in_turn_of (omega arith) (name_one n) (in_turn_of (omega arith) (parameters_laws n) (block_laws bytes n) refl) refl))))
  declaration_laws_by n kind.Handler =
      wider_of begins_declaration any_kind refl refl
      (image_of handler_of
      (led_laws kind.Handler (omega arith) refl refl refl
      (in_turn_of (omega arith) (deeper_laws 2 (omega arith) (name_laws bytes n))
      (in_turn_of (omega arith) (deeper_laws 2 (omega arith) (parameters_laws n))
      (between_laws n 1 false (is kind.Return) (other_than (is kind.On)) kind.OpenBrace kind.CloseBrace braces (omega arith) (Clauses bytes) (inside (clauses bytes) n) (inside_of (clauses bytes) clauses_laws n) refl) refl) refl)))
  declaration_laws_by n kind.Slots =
      wider_of begins_declaration any_kind refl refl
      (image_of slots_of
      (deeper_laws 2 (omega arith)
      (led_laws kind.Slots (omega arith) refl refl refl
      (in_turn_of (omega arith) (name_laws bytes n)
      (led_laws kind.Colon (omega arith) refl refl refl
      (led_laws kind.Res (omega arith) refl refl refl
      (in_turn_of (omega arith) (name_laws bytes n)
      (led_laws kind.OpenBracket (omega arith) refl refl refl (ended_laws kind.Semicolon (omega arith) refl refl refl (ended_laws kind.CloseBracket (omega arith) refl refl refl (int_laws bytes n)))) refl))) refl))))
  declaration_laws_by n k =
      wider_of begins_declaration any_kind refl refl
      (image_of effect_of
      (deeper_laws 2 (omega arith) (led_laws kind.Effect (omega arith) refl refl refl (in_turn_of (omega arith) (name_laws bytes n) (led_laws kind.Slash (omega arith) refl refl refl (ended_laws kind.Semicolon (omega arith) refl refl refl (int_laws bytes n))) refl))))

  -- an effect is a declaration that is always spelled
  effect_begins : (m : ℕ) → Begins (Choice (DeclarationBy bytes m)) []
  unfolding DeclarationBy
  effect_begins m =
      let t : Token = token_of kind.Effect in
      let u : Token = token_of kind.Name in
      let v : Token = token_of kind.Slash in
      let w : Token = token_of kind.Int in (
        t ∷ u ∷ v ∷ w ∷ semicolon ∷ [],
        effect_of (name_of bytes u, number_of bytes w),
        ((name_of bytes u, number_of bytes w), ((t, (name_of bytes u, number_of bytes w)), (t ∷ [], u ∷ v ∷ w ∷ semicolon ∷ [], refl, (t, refl, refl, refl), (u ∷ [], v ∷ w ∷ semicolon ∷ [], refl, (u, refl, refl, refl), ((v, number_of bytes w), (v ∷ [], w ∷ semicolon ∷ [], refl, (v, refl, refl, refl), ((number_of bytes w, semicolon), (w ∷ [], semicolon ∷ [], refl, (w, refl, refl, refl), (semicolon, refl, refl, refl)), refl)), refl))), refl), refl),
      )

  -- any number of declarations
  pub declarations_laws : (n : ℕ) → Laws n 0 true begins_declaration (is kind.End) (λ m. Each (Choice (DeclarationBy bytes m))) (declarations bytes n)
  unfolding declarations
  declarations_laws n =
      fewer_laws (is kind.End) refl
      (many_of (other_than (is kind.End)) refl refl (choice_laws n 0 2 begins_declaration any_kind (λ k m. DeclarationBy bytes m k) (declaration_by bytes n) (omega arith) (declaration_laws_by n) (λ m l. effect_begins m)))

  -- scripts
  pub script_laws : (n : ℕ) → Laws n 0 true begins_declaration (is kind.End) (ScriptOf bytes) (script bytes n)
  unfolding ScriptOf script
  script_laws n = image_of script_of (declarations_laws n)
