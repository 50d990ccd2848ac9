-- What the functions of the host print.
use Rattle.std.specs.Prelude.{ℕ, ◌%◌, List, [], ◌∷◌, ◌++◌}
use Rattle.std.specs.Fmt.{signed_decimal}
use Rattle.w_num.specs.Signed.{signed}

-- a line feed
abbrev pub line_feed : ℕ
line_feed = 10

-- the signed number in decimal, and a line feed
abbrev pub printed_i32 : ℕ → List ℕ
printed_i32 n = signed_decimal (signed 32 n) ++ line_feed ∷ []

abbrev pub printed_i64 : ℕ → List ℕ
printed_i64 n = signed_decimal (signed 64 n) ++ line_feed ∷ []

-- one byte
abbrev pub printed_byte : ℕ → List ℕ
printed_byte n = n % 256 ∷ []
