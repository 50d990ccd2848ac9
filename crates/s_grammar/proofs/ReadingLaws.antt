-- What is known of a grammar and a reading: where reading succeeds, and where and why it is refused.
use Rattle.std.proofs.Common.{◌≡◌, ℕ, ◌+◌, ◌≤◌, Bool, ◌⊎◌, List, [], ◌∷◌, ◌++◌, Some}
use Rattle.std.specs.Prelude.{IsTrue}
use Rattle.s_syntax.specs.declared.token.Kind.{Kind}
use Rattle.s_syntax.specs.declared.token.Token.{Token}
use Rattle.s_grammar.specs.Grammar.{Grammar}
use Rattle.s_grammar.specs.Kinds.{turn, Opens, kind_of, Kinds}
use Rattle.s_grammar.specs.Reading.{Why, Wrong, TooDeep, Reading, Got, Refused, Answer}
use Rattle.s_grammar.proofs.Walks.{walk}

-- something spelled begins with these tokens
abbrev pub Begins : {A : Type 0} → Grammar A → List Token → Type 0
Begins {A} g b = (c : List Token) × (x : A) × g (b ++ c) x

-- a bracket too many could stand there; a token that is wrong couldn't
abbrev pub first_of : List Token → List Token
first_of [] = []
first_of (t ∷ ts) = t ∷ []

-- the bracket that is told, if one too many is
abbrev pub must : Why → List Token → List Token
must Wrong rest = []
must TooDeep rest = first_of rest

-- where a bracket is one too many, no more may be opened, and it opens one
abbrev pub Cause : Why → ℕ → Kind → Type 0
Cause Wrong left k = Unit {0}
Cause TooDeep left k = (left ≡ 0) × (turn k ≡ Opens)

-- A value was read: it is spelled in front, the brackets are closed again, and only the kind of the next token was looked at.
pub record GotAt {A : Type 0} (n : ℕ) (G : ℕ → Grammar A) (r : Reading A) (ts : List Token) (x : A) (rest : List Token) : Type 0 where
  pub front : List Token
  pub parts : ts ≡ front ++ rest
  pub spelled : (m : ℕ) → n ≤ m → G m front x
  pub level : walk n front ≡ Some n
  pub again : (s : List Token) → kind_of s ≡ kind_of rest → r (front ++ s) ≡ Got x s

-- Reading was refused: something spelled begins with what stands in front, and nothing with the token refused too, since no list with the same front and a token of that kind is read.
pub record RefusedAt {A : Type 0} (n : ℕ) (G : ℕ → Grammar A) (r : Reading A) (ts : List Token) (w : Why) (rest : List Token) : Type 0 where
  pub front : List Token
  pub parts : ts ≡ front ++ rest
  pub begins : (m : ℕ) → n + 3 ≤ m → Begins (G m) (front ++ must w rest)
  pub left : ℕ
  pub level : walk n front ≡ Some left
  pub cause : Cause w left (kind_of rest)
  pub again : (s : List Token) → kind_of s ≡ kind_of rest → r (front ++ s) ≡ Refused w s

-- what is known of an answer
abbrev pub Known : {A : Type 0} → ℕ → (ℕ → Grammar A) → Reading A → List Token → Answer A → Type 0
Known n G r ts (Got x rest) = GotAt n G r ts x rest
Known n G r ts (Refused w rest) = RefusedAt n G r ts w rest

-- n brackets may be opened; something is spelled where d may be; e: no tokens may spell something; what is spelled begins
-- with a token of first; and it is read where a token of stops follows.
pub record Laws {A : Type 0} (n d : ℕ) (e : Bool) (first stops : Kinds) (G : ℕ → Grammar A) (r : Reading A) : Type 0 where
  pub known : (ts : List Token) → Known n G r ts (r ts)
  pub only : (b : List Token) (x : A) (s : List Token) → G n b x → IsTrue (stops (kind_of s)) → r (b ++ s) ≡ Got x s
  pub sample : (m : ℕ) → d ≤ m → Begins (G m) []
  pub starts : (m : ℕ) (t : Token) (b : List Token) (x : A) → G m (t ∷ b) x → IsTrue (first t.kind)
  pub empties : (m : ℕ) (x : A) → G m [] x → IsTrue e

-- two readings agree, unless the first finds a bracket too many
abbrev pub IsDeep : {A : Type 0} → Answer A → Type 0
IsDeep (Got x rest) = ⊥
IsDeep (Refused Wrong rest) = ⊥
IsDeep (Refused TooDeep rest) = Unit {0}

-- two readings agree
abbrev pub Agree : {A : Type 0} → Reading A → Reading A → Type 0
Agree r s = (ts : List Token) → IsDeep (r ts) ⊎ (r ts ≡ s ts)
