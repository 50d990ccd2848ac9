-- The tokens of a script.
use Rattle.std.specs.Prelude.{◌≡◌, ◌⊎◌, ℕ, ◌+◌, ◌<◌, ◌≤◌, List, [], ◌∷◌, drop, Result, Ok, Err}
use Rattle.s_syntax.specs.declared.token.Token.{Token}
use Rattle.s_lex.specs.declared.fault.LexFault.{LexFault}
use Rattle.s_lex.specs.declared.fault.LexFault.TheVariants as fault
use Rattle.s_lex.specs.declared.piece.Piece.TheVariants as piece
use Rattle.s_syntax.specs.declared.token.Kind.{Kind}
use Rattle.s_lex.specs.Pieces.{piece_of}

abbrev pub Lexed : Type 0
Lexed = Result (List Token) LexFault

abbrev pub with_token : Token → Lexed → Lexed
with_token t (Ok ts) = Ok (t ∷ ts)
with_token t (Err e) = Err e

-- The bytes from the place `at` on are cut into these tokens from front to back, separators and comments left out; or, for a fault, into
-- tokens, separators and comments up to the place where none begins.
pub data Lexes : ℕ → List ℕ → Lexed → Type 0 where
  ended : {at : ℕ} → Lexes at [] (Ok [])
  blank : {at n b : ℕ} {bs : List ℕ} {r : Lexed} → piece_of (b ∷ bs) ≡ piece.Blank n → Lexes (at + n) (drop n (b ∷ bs)) r → Lexes at (b ∷ bs) r
  token : {at n b : ℕ} {bs : List ℕ} {k : Kind} {r : Lexed} → piece_of (b ∷ bs) ≡ piece.Token k n → Lexes (at + n) (drop n (b ∷ bs)) r → Lexes at (b ∷ bs) (with_token (record { kind = k; start = at; end = at + n }) r)
  bad : {at b : ℕ} {bs : List ℕ} → piece_of (b ∷ bs) ≡ piece.Bad → Lexes at (b ∷ bs) (Err (fault.Lex at))

-- the tokens stand between two places, one behind the other, and each takes a byte at least
abbrev pub AreInOrder : ℕ → ℕ → List Token → Type 0
AreInOrder from to [] = from ≤ to
AreInOrder from to (t ∷ ts) = (from ≤ t.start) × (t.start < t.end) × AreInOrder t.end to ts

-- this answer, unless memory ran out
abbrev pub IsAnswer : Lexed → Lexed → Type 0
IsAnswer r result = (result ≡ r) ⊎ (result ≡ Err fault.OutOfMemory)
