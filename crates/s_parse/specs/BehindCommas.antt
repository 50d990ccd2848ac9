-- An item behind a comma takes a token.
use Rattle.std.specs.Prelude.{◌≡◌, ℕ, ◌<◌, List, length}
use Rattle.std.proofs.Common.{refl, lit≤}
use Rattle.s_syntax.specs.declared.token.Kind.TheVariants as kind
use Rattle.s_syntax.specs.declared.token.Token.{Token}
use Rattle.s_grammar.specs.Kinds.{other_than, is}
use Rattle.s_grammar.specs.Reading.{Reading, Got}
use Rattle.s_grammar.specs.Reads.{led, name, parameter}
use Rattle.s_grammar.specs.Syntax.{Led, NAME, ParameterOf}
use Rattle.s_grammar.proofs.DeclarationLaws.{parameter_laws}
use Rattle.s_grammar.proofs.ExprLaws.{name_laws}
use Rattle.s_grammar.proofs.ForParts.{led_laws}
use Rattle.s_grammar.proofs.KindSets.{any_kind}
use Rattle.s_grammar.proofs.Repetitions.{Shrinks, shrinks}

-- what is read takes a token
abbrev pub TakesToken : {A : Type 0} → Reading A → Type 0
TakesToken {A} r = (ts : List Token) (x : A) (rest : List Token) → r ts ≡ Got x rest → length rest < length ts

pub name_takes : (bytes : List ℕ) → TakesToken (led kind.Comma (name bytes))
unfolding Shrinks
name_takes bytes = shrinks 0 0 _ any_kind (λ m. Led kind.Comma (NAME bytes)) (led kind.Comma (name bytes)) (led_laws kind.Comma (lit≤ tt) refl refl refl (name_laws bytes 0))

pub parameter_takes : (bytes : List ℕ) → TakesToken (led kind.Comma (parameter bytes))
unfolding Shrinks
parameter_takes bytes = shrinks 0 0 _ (other_than (is kind.Colon)) (λ m. Led kind.Comma (ParameterOf bytes)) (led kind.Comma (parameter bytes)) (led_laws kind.Comma (lit≤ tt) refl refl refl (parameter_laws bytes 0))
