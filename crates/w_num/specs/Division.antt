-- Quotients and remainders. A divisor of 0 has none.
use Rattle.std.specs.Prelude.{ℕ, ◌-◌, ◌/◌, ◌%◌, ◌^◌, ◌==◌, ℤ, pos, negsuc, int_div, int_rem, if◌then◌else◌, Result, Ok, Err}
use Rattle.w_num.specs.declared.fault.NumFault.{NumFault}
use Rattle.w_num.specs.declared.fault.NumFault.TheVariants.{DivZero, Overflow}
use Rattle.w_num.specs.Signed.{signed, inverse}

-- idiv_u_N (Core, numerics, integer operations)
abbrev pub idiv_u : ℕ → ℕ → ℕ → Result ℕ NumFault
idiv_u N a b = if b == 0 then Err DivZero else Ok (a / b)

-- irem_u_N (Core, numerics, integer operations)
abbrev pub irem_u : ℕ → ℕ → ℕ → Result ℕ NumFault
irem_u N a b = if b == 0 then Err DivZero else Ok (a % b)

-- the N bits of a signed quotient, but for 2 ^ (N - 1), which passes them
abbrev pub quotient_bits : ℕ → ℤ → Result ℕ NumFault
quotient_bits N (pos q) = if q == 2 ^ (N - 1) then Err Overflow else Ok q
quotient_bits N (negsuc q) = Ok (inverse N (negsuc q))

-- idiv_s_N (Core, numerics, integer operations): rounded toward zero, as `int_div` does
abbrev pub idiv_s : ℕ → ℕ → ℕ → Result ℕ NumFault
idiv_s N a b = if b == 0 then Err DivZero else quotient_bits N (int_div (signed N a) (signed N b))

-- irem_s_N (Core, numerics, integer operations): with the sign of the dividend, as `int_rem` has
abbrev pub irem_s : ℕ → ℕ → ℕ → Result ℕ NumFault
irem_s N a b = if b == 0 then Err DivZero else Ok (inverse N (int_rem (signed N a) (signed N b)))
