-- Bytes in hexadecimal, two lower-case digits each, behind `x`.
use Rattle.std.specs.Prelude.{if◌then◌else◌, ℕ, nat_eq, IsTrue, List, [], ◌∷◌, Option, Some, None, Result, Ok, Err}
use Rattle.std.specs.Str.{is_utf8, bytes_eq}
use Rattle.hex.specs.Hex.{IsBytes, encode_lower, decode_of}
use Rattle.hex.specs.declared.error.FromHexError.{FromHexError}
use Rattle.w_words.specs.Words.{Word, ◌>>=◌}

abbrev pub bytes_word : List ℕ → Word
bytes_word bs = 120 ∷ encode_lower bs

-- bytes, where the digits are theirs in lower case
abbrev pub in_lower_case : Word → Result (List ℕ) FromHexError → Option (List ℕ)
in_lower_case ds (Ok bs) = if bytes_eq ds (encode_lower bs) then Some bs else None
in_lower_case ds (Err e) = None

-- the bytes that a word is
abbrev pub bytes_of : Word → Option (List ℕ)
bytes_of [] = None
bytes_of (x ∷ ds) = if nat_eq x 120 then in_lower_case ds (decode_of ds) else None

-- ## Names, which are UTF-8

abbrev pub as_name : List ℕ → Option (List ℕ)
as_name bs = if is_utf8 bs then Some bs else None

abbrev pub name_of : Word → Option (List ℕ)
name_of w = do
  bs ← bytes_of w
  as_name bs

abbrev pub NameFits : List ℕ → Type 0
NameFits bs = IsBytes bs × IsTrue (is_utf8 bs)
