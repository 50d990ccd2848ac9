-- Sums, differences and products, modulo 2 ^ N.
use Rattle.std.specs.Prelude.{ℕ, ◌+◌, ◌-◌, ◌*◌, ◌%◌, ◌^◌}

-- iadd_N (Core, numerics, integer operations)
abbrev pub iadd : ℕ → ℕ → ℕ → ℕ
iadd N a b = (a + b) % 2 ^ N

-- isub_N (Core, numerics, integer operations)
abbrev pub isub : ℕ → ℕ → ℕ → ℕ
isub N a b = (a + 2 ^ N - b) % 2 ^ N

-- imul_N (Core, numerics, integer operations)
abbrev pub imul : ℕ → ℕ → ℕ → ℕ
imul N a b = (a * b) % 2 ^ N
