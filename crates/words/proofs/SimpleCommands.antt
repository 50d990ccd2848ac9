-- The program's commands are simple, so that clap's definition says which words it takes, what it finds in them, and why it refuses others.
use Rattle.std.proofs.Common.{◌≡◌, List, [], true, refl, Result, Ok, Err, ap, subst, sym, ◌∙◌}
use Rattle.std.specs.Prelude.{IfOk, IfErr}
use Rattle.clap.specs.Faults.{fault_of}
use Rattle.clap.specs.Kinds.{FailsBy, HasKind}
use Rattle.clap.specs.Faults.{is_simple_and_free}
use Rattle.clap.specs.Simple.{App, HasMatchesOf, is_simple, subcommand_of, subcommand_rows_of}
use Rattle.clap.specs.Walk.{Text}
use Rattle.clap.specs.declared.error.Error.{Error}
use Rattle.clap.specs.declared.parser.matches.ArgMatches.{ArgMatches}
use Rattle.clap.proofs.OnLiterals.{clap_on_literals}
use Rattle.words.specs.Line.{the_app}

simple_and_free : is_simple_and_free the_app ≡ true
unfolding clap_on_literals
simple_and_free = refl

simple : is_simple the_app ≡ true
unfolding clap_on_literals
simple = refl

module _ {T : Type 0} (a : App) (words : List Text) (e : a ≡ the_app) where
  fails_by : (r : Result T Error) → (is_simple_and_free a ≡ true → FailsBy (fault_of a words) r) → FailsBy (fault_of the_app words) r
  fails_by r h = subst (λ (b : App). FailsBy (fault_of b words) r) e (h (subst (λ (b : App). is_simple_and_free b ≡ true) (sym e) simple_and_free))

  -- words that are taken have no fault
  pub taken_by : (r : Result T Error) → (is_simple_and_free a ≡ true → FailsBy (fault_of a words) r) → IfOk r (λ m. fault_of the_app words ≡ [])
  taken_by r h = by r (fails_by r h)
    where
      by : (r : Result T Error) → FailsBy (fault_of the_app words) r → IfOk r (λ m. fault_of the_app words ≡ [])
      by (Ok x) k = k
      by (Err x) k = tt

  -- an error of the words has one of the kinds that the definition tells
  pub refused_by : (r : Result T Error) → (is_simple_and_free a ≡ true → FailsBy (fault_of a words) r) → IfErr r (HasKind (fault_of the_app words))
  refused_by r h = by r (fails_by r h)
    where
      by : (r : Result T Error) → FailsBy (fault_of the_app words) r → IfErr r (HasKind (fault_of the_app words))
      by (Ok x) k = tt
      by (Err x) k = k

-- the rows of a command are those that the definition finds
pub found_by : (a : App) (words : List Text) (r : Result ArgMatches Error) → a ≡ the_app → IfOk r (λ m. HasMatchesOf a words m) → IfOk r (λ m. subcommand_rows_of m ≡ subcommand_of the_app words)
found_by a words (Ok m) e h = (h (subst (λ (b : App). is_simple b ≡ true) (sym e) simple)).1 ∙ ap (λ (b : App). subcommand_of b words) e
found_by a words (Err x) e h = tt
