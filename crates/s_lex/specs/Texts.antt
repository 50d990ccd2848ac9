-- The texts of tokens and of comments.
use Rattle.std.specs.Prelude.{◌≡◌, ℕ, ◌+◌, ◌-◌, ◌*◌, ◌≤◌, Bool, false, ◌&&◌, List, [], ◌∷◌, ◌++◌, Option, Some, None, IsTrue, is_some, unwrap_or, if◌then◌else◌, codes}
use Rattle.std.specs.List.{list_all}
use Rattle.std.specs.Str.{bytes_eq}
use Rattle.s_syntax.specs.declared.token.Kind.{Kind}
use Rattle.s_syntax.specs.declared.token.Kind.TheVariants as kind
use Rattle.s_lex.specs.Bytes.{is_hash, is_in_line, is_digit, is_letter, is_letter_or_digit}

-- a byte that passes one test, and then bytes that pass another
abbrev pub consists_of : (first others : ℕ → Bool) → List ℕ → Bool
consists_of first others [] = false
consists_of first others (b ∷ bs) = first b && list_all others bs

-- a word is a letter, and then letters and digits
abbrev pub is_word : List ℕ → Bool
is_word = consists_of is_letter is_letter_or_digit

-- a number is digits
abbrev pub is_number : List ℕ → Bool
is_number = consists_of is_digit is_digit

-- a comment goes from `#` to the end of its line, the line feed left out
abbrev pub is_comment : List ℕ → Bool
is_comment = consists_of is_hash is_in_line

-- ## Words

-- the keywords of types and expressions
abbrev pub inner_keywords : List (List ℕ × Kind)
inner_keywords =
    (codes "do", kind.Do) ∷ (codes "handle", kind.Handle) ∷ (codes "with", kind.With) ∷ (codes "resume", kind.Resume)
    ∷ (codes "group", kind.Group) ∷ (codes "res", kind.Res) ∷ (codes "coro", kind.Coro) ∷ []

-- those of declarations and statements, and then these
abbrev pub keywords : List (List ℕ × Kind)
keywords =
    (codes "effect", kind.Effect) ∷ (codes "fn", kind.Fn) ∷ (codes "handler", kind.Handler) ∷ (codes "slots", kind.Slots)
    ∷ (codes "return", kind.Return) ∷ (codes "on", kind.On) ∷ (codes "let", kind.Let) ∷ (codes "if", kind.If)
    ∷ (codes "else", kind.Else) ∷ (codes "while", kind.While) ∷ (codes "print", kind.Print) ∷ (codes "fail", kind.Fail)
    ∷ (codes "store", kind.Store) ∷ (codes "take", kind.Take) ∷ (codes "spawn", kind.Spawn) ∷ (codes "switch", kind.Switch)
    ∷ inner_keywords

-- the kind beside a text in a table
abbrev pub kind_in : List (List ℕ × Kind) → List ℕ → Option Kind
kind_in [] t = None
kind_in (r ∷ rs) t = if bytes_eq t r.0 then Some r.1 else kind_in rs t

-- a word is a keyword of the table, or else a name
abbrev pub kind_by : List (List ℕ × Kind) → List ℕ → Kind
kind_by rs t = unwrap_or (kind_in rs t) kind.Name

unfoldable pub word_kind : List ℕ → Kind
word_kind t = kind_by keywords t

-- ## Numbers

-- the number of digits, behind others that stand for v
unfoldable pub value_behind : ℕ → List ℕ → ℕ
value_behind v [] = v
value_behind v (d ∷ ds) = value_behind (v * 10 + (d - 48)) ds

abbrev pub value : List ℕ → ℕ
value = value_behind 0

-- the greatest number of a token, 2 ^ 63 - 1
abbrev pub greatest : ℕ
greatest = 9223372036854775807

-- ## Symbols

abbrev pub long_symbols : List (List ℕ × Kind)
long_symbols =
    (codes "==", kind.Equal) ∷ (codes "!=", kind.NotEqual) ∷ (codes "<=", kind.AtMost) ∷ (codes ">=", kind.AtLeast)
    ∷ (codes "&&", kind.And) ∷ (codes "||", kind.Or) ∷ []

abbrev pub short_symbols : List (List ℕ × Kind)
short_symbols =
    (codes "(", kind.OpenParenthesis) ∷ (codes ")", kind.CloseParenthesis) ∷ (codes "{", kind.OpenBrace) ∷ (codes "}", kind.CloseBrace)
    ∷ (codes "[", kind.OpenBracket) ∷ (codes "]", kind.CloseBracket) ∷ (codes ",", kind.Comma) ∷ (codes ";", kind.Semicolon)
    ∷ (codes ":", kind.Colon) ∷ (codes "/", kind.Slash) ∷ (codes "=", kind.Assign) ∷ (codes "+", kind.Plus)
    ∷ (codes "-", kind.Minus) ∷ (codes "*", kind.Star) ∷ (codes "%", kind.Percent) ∷ (codes "<", kind.Less)
    ∷ (codes ">", kind.Greater) ∷ (codes "!", kind.Not) ∷ []

abbrev pub symbol_kind : List ℕ → Option Kind
symbol_kind = kind_in (long_symbols ++ short_symbols)

abbrev pub is_symbol : List ℕ → Bool
is_symbol t = is_some (symbol_kind t)

-- ## All three

-- the text of a token of each kind
pub data IsText : Kind → List ℕ → Type 0 where
  word : {t : List ℕ} → IsTrue (is_word t) → IsText (word_kind t) t
  number : {t : List ℕ} → IsTrue (is_number t) → value t ≤ greatest → IsText kind.Int t
  symbol : {k : Kind} {t : List ℕ} → symbol_kind t ≡ Some k → IsText k t
