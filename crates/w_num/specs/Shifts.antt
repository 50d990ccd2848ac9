-- Shifts and rotations, by a count modulo N.
use Rattle.std.specs.Prelude.{ℕ, ◌+◌, ◌-◌, ◌*◌, ◌/◌, ◌%◌, ◌^◌, pos}
use Rattle.std.specs.Int.{int_div_euclid}
use Rattle.w_num.specs.Signed.{signed, inverse}

-- ishl_N (Core, numerics, integer operations)
abbrev pub ishl : ℕ → ℕ → ℕ → ℕ
ishl N a b = a * 2 ^ (b % N) % 2 ^ N

-- ishr_u_N (Core, numerics, integer operations)
abbrev pub ishr_u : ℕ → ℕ → ℕ → ℕ
ishr_u N a b = a / 2 ^ (b % N)

-- ishr_s_N (Core, numerics, integer operations): copies of the sign come in, so the signed number is divided, rounding down
abbrev pub ishr_s : ℕ → ℕ → ℕ → ℕ
ishr_s N a b = inverse N (int_div_euclid (signed N a) (pos (2 ^ (b % N))))

-- the k high bits of n, and the N - k others, in the other order
abbrev pub turned : ℕ → ℕ → ℕ → ℕ
turned N k n = n % 2 ^ (N - k) * 2 ^ k + n / 2 ^ (N - k)

-- irotl_N (Core, numerics, integer operations)
abbrev pub irotl : ℕ → ℕ → ℕ → ℕ
irotl N a b = turned N (b % N) a

-- irotr_N (Core, numerics, integer operations)
abbrev pub irotr : ℕ → ℕ → ℕ → ℕ
irotr N a b = turned N (N - b % N) a
