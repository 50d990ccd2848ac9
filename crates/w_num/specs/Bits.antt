-- Integers as sequences of bits.
use Rattle.std.specs.Prelude.{ℕ, zero, suc, ◌/◌, ◌%◌, ◌^◌, List, [], ◌∷◌, reverse, sum, bit_and, bit_or, bit_xor}

-- ibits_N (Core, numerics, representations): the bits of n from number N - 1 down to number 0
unfoldable pub ibits : ℕ → ℕ → List ℕ
ibits zero n = []
ibits (suc k) n = n / 2 ^ k % 2 ∷ ibits k n

-- how many zeros a sequence of bits begins with
unfoldable pub leading : List ℕ → ℕ
leading [] = 0
leading (zero ∷ ds) = suc (leading ds)
leading (suc d ∷ ds) = 0

-- iclz_N (Core, numerics, integer operations): all bits of 0 are leading zeros
abbrev pub iclz : ℕ → ℕ → ℕ
iclz N a = leading (ibits N a)

-- ictz_N (Core, numerics, integer operations): all bits of 0 are trailing zeros
abbrev pub ictz : ℕ → ℕ → ℕ
ictz N a = leading (reverse (ibits N a))

-- ipopcnt_N (Core, numerics, integer operations)
abbrev pub ipopcnt : ℕ → ℕ → ℕ
ipopcnt N a = sum (ibits N a)

-- iand_N (Core, numerics, integer operations)
abbrev pub iand : ℕ → ℕ → ℕ → ℕ
iand N a b = bit_and a b

-- ior_N (Core, numerics, integer operations)
abbrev pub ior : ℕ → ℕ → ℕ → ℕ
ior N a b = bit_or a b

-- ixor_N (Core, numerics, integer operations)
abbrev pub ixor : ℕ → ℕ → ℕ → ℕ
ixor N a b = bit_xor a b
