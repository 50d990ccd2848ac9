-- The results of numeric operations are in range where their operands are.
use Rattle.std.proofs.Common.{◌≡◌, ℕ, zero, suc, ◌+◌, ◌-◌, ◌*◌, ◌/◌, ◌%◌, ◌^◌, ◌<◌, ◌≤◌, inl, inr, Bool, true, false, if◌then◌else◌, List, [], ◌∷◌, length, Result, Ok, Err, ℤ, pos, negsuc, neg_ℤ, ◌-ℤ◌, refl, ap, subst, ◌∙◌, arith}
use Rattle.std.specs.Prelude.{reverse, sum, int_div, int_rem}
use Rattle.std.specs.Int.{int_div_euclid}
use Rattle.std.specs.Int.Bits.{and_lt}
use Rattle.std.proofs.Math.Nat.{pow-suc, mod-lt, mod-le, div-le_self, mul-le-mul_right, suc-mul}
use Rattle.std.proofs.Math.Pow.{pow-lt}
use Rattle.std.proofs.lemmas.Bool.{cases_lt, lt-ltb, le-ltb}
use Rattle.std.proofs.lemmas.Int.{ints}
use Rattle.std.proofs.lemmas.List.{length-reverse}
use Rattle.std.proofs.lemmas.List.Sums.{sum_by-cons}
use Rattle.std.proofs.lemmas.Nat.{pow_pos, pow-add, shr_below, or_lt, xor_lt}
use Rattle.w_num.specs.declared.fault.NumFault.{NumFault}
use Rattle.w_num.specs.Signed.{signed, inverse}
use Rattle.w_num.specs.Bits.{ibits, leading}
use Rattle.w_num.specs.Comparisons.{truth}
use Rattle.w_num.specs.Conversions.{extend_s}
use Rattle.w_num.specs.Division.{quotient_bits}
use Rattle.w_num.specs.Shifts.{turned}
use Rattle.w_syntax.specs.declared.memory_instructions.LoadOp.{LoadOp}
use Rattle.w_syntax.specs.declared.memory_instructions.LoadOp.TheVariants as load_op
use Rattle.w_syntax.specs.declared.numeric.IntType.{IntType}
use Rattle.w_syntax.specs.declared.numeric.IntType.TheVariants as int
use Rattle.w_syntax.specs.declared.numeric.Unop.{Unop}
use Rattle.w_syntax.specs.declared.numeric.Unop.TheVariants as unary
use Rattle.w_syntax.specs.declared.numeric.Binop.{Binop}
use Rattle.w_syntax.specs.declared.numeric.Binop.TheVariants as binary
use Rattle.w_syntax.specs.declared.numeric.Relop.{Relop}
use Rattle.w_syntax.specs.declared.numeric.Relop.TheVariants as relation
use Rattle.w_syntax.specs.declared.numeric.Cvtop.{Cvtop}
use Rattle.w_syntax.specs.declared.numeric.Cvtop.TheVariants as conversion
use Rattle.w_reduce.specs.Memories.{loaded_type, loaded_size, loaded}
use Rattle.w_reduce.specs.Numeric.{width, unop, binop, relop, taken_by, given_by, cvtop}

-- what is at most N is below 2 ^ N
at_most_width : (N n : ℕ) → n ≤ N → n < 2 ^ N
at_most_width zero n h = omega arith
at_most_width (suc N) n h = omega (arith, at_most_width N N (omega arith), pow-suc 2 N)

-- ## Signed numbers

-- z is no farther from zero than b
abbrev IsNear : ℕ → ℤ → Type 0
IsNear b (pos n) = n ≤ b
IsNear b (negsuc n) = n + 1 ≤ b

-- a number or its opposite
near_neg : (b n : ℕ) → n ≤ b → IsNear b (neg_ℤ (pos n))
near_neg b zero h = omega arith
near_neg b (suc n) h = omega arith

-- the bits of a number that is near enough
inverse_below : (N b : ℕ) (z : ℤ) → b < 2 ^ N → IsNear b z → inverse N z < 2 ^ N
inverse_below N b (pos n) h k = omega arith
inverse_below N b (negsuc n) h k = omega arith

less_near : (b m n : ℕ) (z : ℤ) → z ≡ pos m -ℤ pos n → m ≤ n → n ≤ b + m → IsNear b z
less_near b m n (pos k) e h le = omega (arith, ints)
less_near b m n (negsuc k) e h le = omega (arith, ints)

-- the signed reading of N bits is at most half of 2 ^ N from zero
signed_near : (N n : ℕ) → 0 < N → n < 2 ^ N → IsNear (2 ^ (N - 1)) (signed N n)
signed_near N n p h =
    let whole : 2 ^ N ≡ 2 ^ (N - 1) * 2 = ap (λ (k : ℕ). 2 ^ k) (omega arith) ∙ pow-suc 2 (N - 1) in
    elim (cases_lt n (2 ^ (N - 1))) [
      | inl low ↦ rw (lt-ltb n (2 ^ (N - 1)) low) (omega arith)
      | inr high ↦ rw (le-ltb n (2 ^ (N - 1)) high) (less_near (2 ^ (N - 1)) n (2 ^ N) (pos n -ℤ pos (2 ^ N)) refl (omega arith) (omega arith))
    ]

half_below : (N : ℕ) → 0 < N → 2 ^ (N - 1) < 2 ^ N
half_below N p = pow-lt (omega arith)

-- quotients and remainders are no farther from zero than the dividend
quotient_near : (b : ℕ) (x y : ℤ) → IsNear b x → IsNear b (int_div x y)
quotient_near b (pos n) (pos k) h = omega (arith, div-le_self n k)
quotient_near b (pos n) (negsuc k) h = near_neg b (n / suc k) (omega (arith, div-le_self n (suc k)))
quotient_near b (negsuc n) (pos k) h = near_neg b (suc n / k) (omega (arith, div-le_self (suc n) k))
quotient_near b (negsuc n) (negsuc k) h = omega (arith, div-le_self (suc n) (suc k))

remainder_near : (b : ℕ) (x y : ℤ) → IsNear b x → IsNear b (int_rem x y)
remainder_near b (pos n) (pos k) h = omega (arith, mod-le n k)
remainder_near b (pos n) (negsuc k) h = omega (arith, mod-le n (suc k))
remainder_near b (negsuc n) (pos k) h = near_neg b (suc n % k) (omega (arith, mod-le (suc n) k))
remainder_near b (negsuc n) (negsuc k) h = near_neg b (suc n % suc k) (omega (arith, mod-le (suc n) (suc k)))

rounded_near : (b k : ℕ) (x : ℤ) → IsNear b x → IsNear b (int_div_euclid x (pos k))
rounded_near b k (pos n) h = omega (arith, div-le_self n k)
rounded_near b k (negsuc n) h = omega (arith, div-le_self n k)

-- ## Bits

bits_many : (N n : ℕ) → length (ibits N n) ≡ N
unfolding ibits
bits_many zero n = refl
bits_many (suc N) n = ap suc (bits_many N n)

leading_few : (ds : List ℕ) → leading ds ≤ length ds
unfolding leading
leading_few [] = omega arith
leading_few (zero ∷ ds) = omega (arith, leading_few ds)
leading_few (suc d ∷ ds) = omega arith

ones_few : (N n : ℕ) → sum (ibits N n) ≤ N
unfolding ibits
ones_few zero n = omega arith
ones_few (suc N) n =
    let one_more : sum (ibits (suc N) n) ≡ n / 2 ^ N % 2 + sum (ibits N n) = sum_by-cons (λ (d : ℕ). d) (n / 2 ^ N % 2) (ibits N n) in
    omega (arith, one_more, ones_few N n, mod-lt (n / 2 ^ N) {m = 2} (omega arith))

-- the counts of bits
pub unop_below : (o : Unop) (N n : ℕ) → unop o N n < 2 ^ N
unop_below unary.Clz N n = at_most_width N (leading (ibits N n)) (omega (arith, leading_few (ibits N n), bits_many N n))
unop_below unary.Ctz N n = at_most_width N (leading (reverse (ibits N n))) (omega (arith, leading_few (reverse (ibits N n)), length-reverse (ibits N n), bits_many N n))
unop_below unary.Popcnt N n = at_most_width N (sum (ibits N n)) (ones_few N n)

-- ## Operators

-- a rotated number
turned_below : (N k n : ℕ) → k ≤ N → n < 2 ^ N → turned N k n < 2 ^ N
turned_below N k n le h =
    let parts : 2 ^ N ≡ 2 ^ (N - k) * 2 ^ k = ap (λ (i : ℕ). 2 ^ i) (omega arith) ∙ pow-add 2 (N - k) k in
    let high : n / 2 ^ (N - k) < 2 ^ k = shr_below n k (N - k) (subst (λ (i : ℕ). n < 2 ^ i) (omega arith) h) in
    let low : suc (n % 2 ^ (N - k)) ≤ 2 ^ (N - k) = mod-lt n (pow_pos (N - k)) in
    omega (arith, high, parts, mul-le-mul_right (2 ^ k) low, suc-mul (n % 2 ^ (N - k)) (2 ^ k))

modular : (N n : ℕ) → n % 2 ^ N < 2 ^ N
modular N n = mod-lt n (pow_pos N)

-- where there is a result
unless_fault : (t : Bool) (f : NumFault) (o : Result ℕ NumFault) (r : ℕ) → (if t then Err f else o) ≡ Ok r → o ≡ Ok r
unless_fault true f o r h = absurd (cc)
unless_fault false f o r h = h

one_result : (n r : ℕ) → ◌≡◌ {A = Result ℕ NumFault} (Ok n) (Ok r) → n ≡ r
one_result n r h = cc

quotient_below : (N b r : ℕ) (z : ℤ) → b < 2 ^ N → IsNear b z → quotient_bits N z ≡ Ok r → r < 2 ^ N
quotient_below N b r (pos q) h k is =
    let same : q ≡ r = one_result q r (unless_fault _ _ (Ok q) r is) in
    omega arith
quotient_below N b r (negsuc q) h k is =
    let same : inverse N (negsuc q) ≡ r = one_result (inverse N (negsuc q)) r is in
    omega (arith, inverse_below N b (negsuc q) h k)

-- the result is below a bound that its value is below
result_below : (N n r : ℕ) → ◌≡◌ {A = Result ℕ NumFault} (Ok n) (Ok r) → n < 2 ^ N → r < 2 ^ N
result_below N n r e h = let same : n ≡ r = one_result n r e in omega arith

pub binop_below : (o : Binop) (N a b r : ℕ) → 0 < N → a < 2 ^ N → b < 2 ^ N → binop o N a b ≡ Ok r → r < 2 ^ N
binop_below binary.Add N a b r p h k is = result_below N _ r is (modular N _)
binop_below binary.Sub N a b r p h k is = result_below N _ r is (modular N _)
binop_below binary.Mul N a b r p h k is = result_below N _ r is (modular N _)
binop_below binary.DivS N a b r p h k is =
    quotient_below N (2 ^ (N - 1)) r (int_div (signed N a) (signed N b)) (half_below N p)
    (quotient_near (2 ^ (N - 1)) (signed N a) (signed N b) (signed_near N a p h)) (unless_fault _ _ _ r is)
binop_below binary.DivU N a b r p h k is = result_below N (a / b) r (unless_fault _ _ _ r is) (omega (arith, div-le_self a b))
binop_below binary.RemS N a b r p h k is =
    result_below N (inverse N (int_rem (signed N a) (signed N b))) r (unless_fault _ _ _ r is)
    (inverse_below N (2 ^ (N - 1)) (int_rem (signed N a) (signed N b)) (half_below N p)
    (remainder_near (2 ^ (N - 1)) (signed N a) (signed N b) (signed_near N a p h)))
binop_below binary.RemU N a b r p h k is = result_below N (a % b) r (unless_fault _ _ _ r is) (omega (arith, mod-le a b))
binop_below binary.And N a b r p h k is = result_below N _ r is (and_lt N a b h k)
binop_below binary.Or N a b r p h k is = result_below N _ r is (or_lt N a b h k)
binop_below binary.Xor N a b r p h k is = result_below N _ r is (xor_lt N a b h k)
binop_below binary.Shl N a b r p h k is = result_below N _ r is (modular N _)
binop_below binary.ShrS N a b r p h k is =
    result_below N _ r is (inverse_below N (2 ^ (N - 1)) (int_div_euclid (signed N a) (pos (2 ^ (b % N)))) (half_below N p)
    (rounded_near (2 ^ (N - 1)) (2 ^ (b % N)) (signed N a) (signed_near N a p h)))
binop_below binary.ShrU N a b r p h k is = result_below N (a / 2 ^ (b % N)) r is (omega (arith, div-le_self a (2 ^ (b % N))))
binop_below binary.Rotl N a b r p h k is = result_below N _ r is (turned_below N (b % N) a (omega (arith, mod-lt b p)) h)
binop_below binary.Rotr N a b r p h k is = result_below N _ r is (turned_below N (N - b % N) a (omega arith) h)

-- a test and a comparison give 1 or 0
pub truth_below : (b : Bool) → truth b < 2 ^ 32
truth_below true = omega arith
truth_below false = omega arith

pub relop_below : (o : Relop) (N a b : ℕ) → relop o N a b < 2 ^ 32
relop_below relation.Eq N a b = truth_below _
relop_below relation.Ne N a b = truth_below _
relop_below relation.LtS N a b = truth_below _
relop_below relation.LtU N a b = truth_below _
relop_below relation.GtS N a b = truth_below _
relop_below relation.GtU N a b = truth_below _
relop_below relation.LeS N a b = truth_below _
relop_below relation.LeU N a b = truth_below _
relop_below relation.GeS N a b = truth_below _
relop_below relation.GeU N a b = truth_below _

-- ## Conversions

-- M bits, extended by their sign
extended_below : (M N n : ℕ) → 0 < M → 2 ^ (M - 1) < 2 ^ N → n < 2 ^ M → extend_s M N n < 2 ^ N
extended_below M N n p le h = inverse_below N (2 ^ (M - 1)) (signed M n) le (signed_near M n p h)

pub cvtop_below : (o : Cvtop) (n : ℕ) → n < 2 ^ width (taken_by o) → cvtop o n < 2 ^ width (given_by o)
cvtop_below conversion.I32WrapI64 n h = modular 32 n
cvtop_below conversion.I64ExtendI32S n h = extended_below 32 64 n (omega arith) (omega arith) h
cvtop_below conversion.I64ExtendI32U n h = omega arith
cvtop_below conversion.I32Extend8S n h = extended_below 8 32 (n % 2 ^ 8) (omega arith) (omega arith) (modular 8 n)
cvtop_below conversion.I32Extend16S n h = extended_below 16 32 (n % 2 ^ 16) (omega arith) (omega arith) (modular 16 n)
cvtop_below conversion.I64Extend8S n h = extended_below 8 64 (n % 2 ^ 8) (omega arith) (omega arith) (modular 8 n)
cvtop_below conversion.I64Extend16S n h = extended_below 16 64 (n % 2 ^ 16) (omega arith) (omega arith) (modular 16 n)
cvtop_below conversion.I64Extend32S n h = extended_below 32 64 (n % 2 ^ 32) (omega arith) (omega arith) (modular 32 n)

-- what a load makes of the bytes that it read
pub loaded_below : (o : LoadOp) (n : ℕ) → n < 256 ^ loaded_size o → loaded o n < 2 ^ width (loaded_type o)
loaded_below load_op.I32Load n h = omega arith
loaded_below load_op.I64Load n h = omega arith
loaded_below load_op.I32Load8S n h = extended_below 8 32 n (omega arith) (omega arith) h
loaded_below load_op.I32Load8U n h = omega arith
loaded_below load_op.I32Load16S n h = extended_below 16 32 n (omega arith) (omega arith) h
loaded_below load_op.I32Load16U n h = omega arith
loaded_below load_op.I64Load8S n h = extended_below 8 64 n (omega arith) (omega arith) h
loaded_below load_op.I64Load8U n h = omega arith
loaded_below load_op.I64Load16S n h = extended_below 16 64 n (omega arith) (omega arith) h
loaded_below load_op.I64Load16U n h = omega arith
loaded_below load_op.I64Load32S n h = extended_below 32 64 n (omega arith) (omega arith) h
loaded_below load_op.I64Load32U n h = omega arith

-- the width of a type is not 0
pub width_there : (t : IntType) → 0 < width t
width_there int.I32 = omega arith
width_there int.I64 = omega arith
