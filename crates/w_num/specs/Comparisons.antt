-- Tests and comparisons: 1 for what holds, and else 0.
use Rattle.std.specs.Prelude.{ℕ, Bool, not, ◌==◌, nat_lt, nat_le, int_lt, int_le, if◌then◌else◌}
use Rattle.w_num.specs.Signed.{signed}

-- bool (Core, numerics, integer operations, boolean interpretation)
abbrev pub truth : Bool → ℕ
truth b = if b then 1 else 0

-- ieqz_N (Core, numerics, integer operations)
abbrev pub ieqz : ℕ → ℕ → ℕ
ieqz N a = truth (a == 0)

-- ieq_N (Core, numerics, integer operations)
abbrev pub ieq : ℕ → ℕ → ℕ → ℕ
ieq N a b = truth (a == b)

-- ine_N (Core, numerics, integer operations)
abbrev pub ine : ℕ → ℕ → ℕ → ℕ
ine N a b = truth (not (a == b))

-- ilt_u_N (Core, numerics, integer operations)
abbrev pub ilt_u : ℕ → ℕ → ℕ → ℕ
ilt_u N a b = truth (nat_lt a b)

-- ilt_s_N (Core, numerics, integer operations)
abbrev pub ilt_s : ℕ → ℕ → ℕ → ℕ
ilt_s N a b = truth (int_lt (signed N a) (signed N b))

-- igt_u_N (Core, numerics, integer operations)
abbrev pub igt_u : ℕ → ℕ → ℕ → ℕ
igt_u N a b = truth (nat_lt b a)

-- igt_s_N (Core, numerics, integer operations)
abbrev pub igt_s : ℕ → ℕ → ℕ → ℕ
igt_s N a b = truth (int_lt (signed N b) (signed N a))

-- ile_u_N (Core, numerics, integer operations)
abbrev pub ile_u : ℕ → ℕ → ℕ → ℕ
ile_u N a b = truth (nat_le a b)

-- ile_s_N (Core, numerics, integer operations)
abbrev pub ile_s : ℕ → ℕ → ℕ → ℕ
ile_s N a b = truth (int_le (signed N a) (signed N b))

-- ige_u_N (Core, numerics, integer operations)
abbrev pub ige_u : ℕ → ℕ → ℕ → ℕ
ige_u N a b = truth (nat_le b a)

-- ige_s_N (Core, numerics, integer operations)
abbrev pub ige_s : ℕ → ℕ → ℕ → ℕ
ige_s N a b = truth (int_le (signed N b) (signed N a))
