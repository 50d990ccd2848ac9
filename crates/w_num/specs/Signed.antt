-- The signed reading of integers. A value of N bits is a whole number below 2 ^ N.
use Rattle.std.specs.Prelude.{ℕ, ◌+◌, ◌-◌, ◌^◌, ℤ, pos, negsuc, ◌-ℤ◌, nat_lt, if◌then◌else◌}

-- signed_N (Core, numerics, integer operations, sign interpretation): n, where it is below half of 2 ^ N, and else n - 2 ^ N
abbrev pub signed : ℕ → ℕ → ℤ
signed N n = if nat_lt n (2 ^ (N - 1)) then pos n else pos n -ℤ pos (2 ^ N)

-- its inverse: the number below 2 ^ N that a signed number of N bits is the reading of
abbrev pub inverse : ℕ → ℤ → ℕ
inverse N (pos n) = n
inverse N (negsuc n) = 2 ^ N - (n + 1)
