-- What stands in front of bytes: a token, a separator or a comment.
use Rattle.std.specs.Prelude.{◌≡◌, ℕ, ◌<◌, ◌≤◌, Bool, false, List, [], ◌∷◌, length, take, drop, Some, IsTrue}
use Rattle.s_syntax.specs.declared.token.Kind.{Kind}
use Rattle.s_syntax.specs.declared.token.Kind.TheVariants as kind
use Rattle.s_lex.specs.Bytes.{is_separator, is_letter}
use Rattle.s_lex.specs.Texts.{is_word, is_number, is_comment, is_symbol, word_kind, symbol_kind, value, greatest}

-- the first n bytes pass a test, and no more of them do
pub record IsLongest (test : List ℕ → Bool) (bs : List ℕ) (n : ℕ) : Type 0 where
  pub within : n ≤ length bs
  pub passes : IsTrue (test (take n bs))
  pub longest : (m : ℕ) → n < m → m ≤ length bs → test (take m bs) ≡ false

-- whether a byte is there that passes a test
abbrev pub begins : (ℕ → Bool) → List ℕ → Bool
begins test [] = false
begins test (b ∷ bs) = test b

-- A token of kind k and of n bytes: a word, a number or a symbol that is as long as can be. A number is no greater than the greatest one,
-- and no letter stands right behind it.
pub data TokenStands : List ℕ → Kind → ℕ → Type 0 where
  word : {bs : List ℕ} {n : ℕ} → IsLongest is_word bs n → TokenStands bs (word_kind (take n bs)) n
  number : {bs : List ℕ} {n : ℕ} → IsLongest is_number bs n → value (take n bs) ≤ greatest → begins is_letter (drop n bs) ≡ false → TokenStands bs kind.Int n
  symbol : {bs : List ℕ} {k : Kind} {n : ℕ} → IsLongest is_symbol bs n → symbol_kind (take n bs) ≡ Some k → TokenStands bs k n

-- n bytes that give no token: a separator, or a comment
pub data BlankStands : List ℕ → ℕ → Type 0 where
  separator : {b : ℕ} {bs : List ℕ} → IsTrue (is_separator b) → BlankStands (b ∷ bs) 1
  comment : {bs : List ℕ} {n : ℕ} → IsLongest is_comment bs n → BlankStands bs n

-- neither a token nor a separator nor a comment begins there
pub record NothingStands (bs : List ℕ) : Type 0 where
  pub no_token : (k : Kind) (n : ℕ) → TokenStands bs k n → ⊥
  pub no_blank : (n : ℕ) → BlankStands bs n → ⊥
