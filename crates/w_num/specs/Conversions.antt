-- Conversions between widths.
use Rattle.std.specs.Prelude.{ℕ, ◌%◌, ◌^◌}
use Rattle.w_num.specs.Signed.{signed, inverse}

-- wrap_M,N (Core, numerics, conversions): the low N of M bits
abbrev pub wrap : ℕ → ℕ → ℕ → ℕ
wrap M N n = n % 2 ^ N

-- extend_u_M,N (Core, numerics, conversions)
abbrev pub extend_u : ℕ → ℕ → ℕ → ℕ
extend_u M N n = n

-- extend_s_M,N (Core, numerics, conversions): the N bits of the signed number that the M bits are
abbrev pub extend_s : ℕ → ℕ → ℕ → ℕ
extend_s M N n = inverse N (signed M n)

-- iextend_M_s_N (Core, numerics, integer operations): the low M of N bits, extended
abbrev pub iextend_s : ℕ → ℕ → ℕ → ℕ
iextend_s M N n = extend_s M N (wrap N M n)
