-- Numbers in decimal, without leading zeros. How numbers are written is a word of the library, `decimal`.
use Rattle.std.specs.Prelude.{if◌then◌else◌, ℕ, zero, suc, min, ◌+◌, ◌-◌, ◌*◌, ◌^◌, ◌<◌, Bool, true, false, not, ◌&&◌, nat_eq, nat_le, nat_lt, List, [], ◌∷◌, map, Option, Some, None, ℤ, pos, negsuc}
use Rattle.std.specs.List.{list_all}
use Rattle.std.specs.Int.Digits.{digits_of}
use Rattle.w_leb.specs.Number.{size_of}
use Rattle.w_words.specs.Words.{Word, ◌>>=◌}

abbrev pub is_digit : ℕ → Bool
is_digit b = nat_le 48 b && nat_le b 57

-- the number of digits, behind others that stand for v
unfoldable pub value_behind : ℕ → List ℕ → ℕ
value_behind v [] = v
value_behind v (d ∷ ds) = value_behind (v * 10 + (d - 48)) ds

abbrev pub value : List ℕ → ℕ
value ds = value_behind 0 ds

-- digits of which the first is 0 only where it is alone
abbrev pub is_short : List ℕ → Bool
is_short [] = false
is_short (d ∷ []) = true
is_short (d ∷ e ∷ ds) = not (nat_eq d 48)

abbrev pub is_numeral : List ℕ → Bool
is_numeral ds = is_short ds && list_all is_digit ds

-- the number of w bits that a word is
unfoldable pub number_of : ℕ → Word → Option ℕ
number_of w ds = if is_numeral ds && nat_lt (value ds) (2 ^ w) then Some (value ds) else None

-- an index
abbrev pub Index32 : ℕ → Type 0
Index32 x = x < 2 ^ 32

-- ## Signed numbers

-- of w bits
abbrev pub SignedFits : ℕ → ℤ → Type 0
SignedFits w z = size_of z < 2 ^ (w - 1)

abbrev pub as_positive : ℕ → ℕ → Option ℤ
as_positive w n = if nat_lt n (2 ^ (w - 1)) then Some (pos n) else None

-- no 0 behind a sign
abbrev pub as_negative : ℕ → ℕ → Option ℤ
as_negative w zero = None
as_negative w (suc n) = if nat_lt n (2 ^ (w - 1)) then Some (negsuc n) else None

-- the signed number of w bits that a word is
unfoldable pub signed_of : ℕ → Word → Option ℤ
signed_of w [] = None
signed_of w (b ∷ ds) =
    if nat_eq b 45 then (number_of 64 ds >>= as_negative w)
    else (number_of 64 (b ∷ ds) >>= as_positive w)

-- ## Counts, which have no range

abbrev pub glyph : ℕ → ℕ
glyph d = 48 + d

unfoldable pub count_word : ℕ → Word
count_word n = if nat_eq n 0 then 48 ∷ [] else map glyph (digits_of 10 n)

unfoldable pub count_of : Word → Option ℕ
count_of ds = if is_numeral ds then Some (value ds) else None

-- a count as it is kept: what is 2^64 or more is the greatest number of 64 bits
abbrev pub kept_count : ℕ → ℕ
kept_count n = min n 18446744073709551615
