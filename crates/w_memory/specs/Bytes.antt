-- Numbers as bytes (Core, execution, numerics, representations).
use Rattle.std.specs.Prelude.{ℕ, ◌+◌, ◌*◌, List, [], ◌∷◌}
use Rattle.std.specs.Int.{bytes_low_first}

-- littleendian: the low bytes of a number, as many as `size`, the lowest first
abbrev pub bytes_of : ℕ → ℕ → List ℕ
bytes_of size v = bytes_low_first 0 size v

-- its inverse: the number that bytes spell, the lowest first
abbrev pub number_of : List ℕ → ℕ
number_of [] = 0
number_of (b ∷ bs) = b + 256 * number_of bs
