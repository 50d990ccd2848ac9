-- What names and numbers stand for, by the bytes that their tokens cover.
use Rattle.std.specs.Prelude.{ℕ, min, List, slice_range}
use Rattle.std.proofs.Math.Nat.{min-le_right}
use Rattle.s_syntax.specs.declared.name.Name.{Name}
use Rattle.s_syntax.specs.declared.number.Number.{Number}
use Rattle.s_syntax.specs.declared.token.Token.{Token}
use Rattle.s_lex.specs.Texts.{value, greatest}

-- the bytes of a token
abbrev pub text_of : List ℕ → Token → List ℕ
text_of bytes t = slice_range bytes t.start t.end

abbrev pub name_of : List ℕ → Token → Name
name_of bytes t = text_of bytes t

-- The number of this value. One above the greatest is the text of no token, and is cut to that.
abbrev pub number : ℕ → Number
number n = record { value = min n greatest; small = min-le_right n greatest }

abbrev pub number_of : List ℕ → Token → Number
number_of bytes t = number (value (text_of bytes t))
