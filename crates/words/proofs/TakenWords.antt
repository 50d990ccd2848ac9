-- What words ask for that clap takes, and that words which it refuses are a bad line.
use Rattle.std.proofs.Common.{◌≡◌, ◌≢◌, ℕ, Bool, false, List, [], ◌∷◌, Option, Some, None, refl, inl, inr, suc, ap, subst, arith, length}
use Rattle.std.specs.Prelude.{if◌then◌else◌, nat_eq}
use Rattle.std.proofs.lemmas.Bool.Decides.{nat_tests}
use Rattle.clap.specs.Walk.{Text, is_empty}
use Rattle.clap.specs.Kinds.{Kinds, IsAmong, HasKind}
use Rattle.clap.specs.Faults.{fault_of}
use Rattle.clap.specs.Simple.{subcommand_of}
use Rattle.clap.specs.Values.{kind_of}
use Rattle.clap.specs.declared.error.Error.{Error}
use Rattle.clap.specs.declared.error.kind.ErrorKind.{ErrorKind}
use Rattle.clap.specs.declared.error.kind.ErrorKind.TheVariants as kind
use Rattle.words.specs.declared.request.Request.{Request}
use Rattle.words.specs.Request.{Asks, asked_by}
use Rattle.words.specs.Line.{Line, bad, line_of, entered_line, the_app}

empty_gives : (kinds : Kinds) (l : Line) → kinds ≡ [] → (if is_empty kinds then l else bad) ≡ l
empty_gives kinds l e = rw e refl

not_zero : (n : ℕ) → nat_eq (suc n) 0 ≡ false
not_zero n = grind (arith, nat_tests)

among_gives : (kinds : Kinds) (k : ErrorKind) (l : Line) → IsAmong k kinds → (if is_empty kinds then l else bad) ≡ bad
among_gives [] k l h = absurd h
among_gives (x ∷ xs) k l h = ap (λ (t : Bool). if t then l else bad) (not_zero (length xs))

pub line_of-taken : (words : List Text) → fault_of the_app words ≡ [] → line_of words ≡ entered_line (subcommand_of the_app words)
unfolding line_of
line_of-taken words e = empty_gives _ _ e

pub line_of-refused : (words : List Text) (e : Error) → HasKind (fault_of the_app words) e → kind_of e ≢ kind.OutOfMemory → line_of words ≡ bad
unfolding line_of
line_of-refused words e h ne = elim h [ inl m ↦ absurd (ne m) | inr a ↦ among_gives _ _ _ a ]

-- what was found is what the line asks for
pub asked_for : (found : Option Request) (r : Request) (l : Line) → Asks found l → found ≡ Some r → l ≡ asked_by r
asked_for found r l asks is = subst (λ (o : Option Request). Asks o l) is asks

-- where nothing was found the line is bad
pub asked_none : (found : Option Request) (l : Line) → Asks found l → found ≡ None → l ≡ bad
asked_none found l asks is = subst (λ (o : Option Request). Asks o l) is asks
