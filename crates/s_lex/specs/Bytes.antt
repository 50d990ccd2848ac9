-- The bytes of scripts.
use Rattle.std.specs.Prelude.{ℕ, Bool, not, ◌||◌, ◌&&◌, nat_eq, nat_le}
use Rattle.std.specs.Str.{byte}
use Rattle.s_lex.specs.declared.bytes.ByteClass.{ByteClass}
use Rattle.s_lex.specs.declared.bytes.ByteClass.TheVariants as class

-- space, tab, line feed and carriage return separate tokens
abbrev pub is_separator : ℕ → Bool
is_separator b = nat_eq b (byte " ") || (nat_eq b 9 || (nat_eq b 10 || nat_eq b 13))

-- the byte that begins a comment, and those that go on with it: all but the line feed
abbrev pub is_hash : ℕ → Bool
is_hash b = nat_eq b (byte "#")

abbrev pub is_in_line : ℕ → Bool
is_in_line b = not (nat_eq b 10)

abbrev pub is_digit : ℕ → Bool
is_digit b = nat_le (byte "0") b && nat_le b (byte "9")

-- the letters of ASCII, and `_`
abbrev pub is_letter : ℕ → Bool
is_letter b = (nat_le (byte "a") b && nat_le b (byte "z")) || ((nat_le (byte "A") b && nat_le b (byte "Z")) || nat_eq b (byte "_"))

abbrev pub is_letter_or_digit : ℕ → Bool
is_letter_or_digit b = is_letter b || is_digit b

-- the bytes that a word, a number and a comment go on with
abbrev pub is_of : ByteClass → ℕ → Bool
is_of class.Word = is_letter_or_digit
is_of class.Number = is_digit
is_of class.Comment = is_in_line
