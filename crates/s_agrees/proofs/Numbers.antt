-- The machine's operations on 64 bits, beside the script's on numbers: the number of bits is their signed reading.
use Rattle.std.proofs.Common.{◌≡◌, ℕ, zero, suc, ◌+◌, ◌-◌, ◌*◌, ◌/◌, ◌%◌, ◌^◌, ◌<◌, ◌≤◌, Bool, true, false, not, ◌&&◌, ℤ, pos, negsuc, ◌+ℤ◌, ◌-ℤ◌, ◌*ℤ◌, neg_ℤ, nat_eq, int_div, int_rem, unsigned_abs, if◌then◌else◌, Result, Ok, Err, inl, inr, refl, sym, ap, ◌∙◌, subst, arith, mod-lt, div-le_self, div-lt_iff_lt-mul, lit<}
use Rattle.std.specs.Int.{w64, int_wrap, cast_signed, cast_unsigned}
use Rattle.std.specs.Ordering.{int_eq}
use Rattle.std.proofs.lemmas.Bool.{cases_lt, lt-ltb, le-ltb, ne_eqb, eq-eqb, cases_eq, and_parts, and_right, false≢true}
use Rattle.std.proofs.Math.Nat.{mod-le}
use Rattle.std.proofs.lemmas.Bool.Decides.{same_from_decides, Decides-eqb, Decides-int_eq, Decides-like}
use Rattle.std.proofs.lemmas.Int.{wrapping_add-bits, wrapping_sub-bits, wrapping_mul-bits, of_z-to_z}
use Rattle.w_num.specs.declared.fault.NumFault.{NumFault}
use Rattle.w_num.specs.declared.fault.NumFault.TheVariants as fault
use Rattle.w_num.specs.Signed.{signed, inverse}
use Rattle.w_num.specs.Arithmetic.{iadd, isub, imul}
use Rattle.w_num.specs.Division.{quotient_bits}
use Rattle.w_num.specs.Comparisons as bit
use Rattle.w_reduce.specs.Numeric.{binop, relop}
use Rattle.s_syntax.specs.declared.number.Number.{Number}
use Rattle.s_syntax.specs.declared.operators.Comparison.{Comparison}
use Rattle.s_syntax.specs.declared.operators.Comparison.TheVariants.{Equal, NotEqual, Less, AtMost, Greater, AtLeast}
use Rattle.s_syntax.specs.declared.operators.Arithmetic.{Arithmetic}
use Rattle.s_syntax.specs.declared.operators.Arithmetic.TheVariants.{Add, Subtract, Multiply, Divide, Remainder}
use Rattle.s_code.specs.Instructions.{binop_of, relop_of}
use Rattle.s_meaning.specs.Numbers.{DivZero, Overflow, least, minus_one, wrap, holds, truth, compare, Computed, Is, Faulty, compute}

-- ## Readings

-- the reading, in the words of the laws of wrapping
pub signed_cast : (n : ℕ) → n < 2 ^ 64 → signed 64 n ≡ cast_signed w64 n
signed_cast n h = elim (cases_lt n (2 ^ 63)) [
  | inl low ↦ rw (lt-ltb n (2 ^ 63) low) refl
  | inr high ↦ rw (le-ltb n (2 ^ 63) high, lt-ltb n (2 ^ 64) h) refl
]

-- bits below 2^63 are a number that isn't negative
pub signed_low : (n : ℕ) → n < 2 ^ 63 → signed 64 n ≡ pos n
signed_low n h = rw (lt-ltb n (2 ^ 63) h) refl

-- the others are a negative one
pub signed_high : (n k : ℕ) → n + suc k ≡ 2 ^ 64 → k < 2 ^ 63 → signed 64 n ≡ negsuc k
signed_high n k e h =
    let high : 2 ^ 63 ≤ n = omega (arith, e, h) in
    let top : n < 2 ^ 64 = omega (arith, e) in
    let left : 2 ^ 64 - suc n ≡ k = omega (arith, e) in
    rw (le-ltb n (2 ^ 63) high, lt-ltb n (2 ^ 64) top) (ap negsuc left)

-- different bits are different numbers
pub signed_injective : (a b : ℕ) → a < 2 ^ 64 → b < 2 ^ 64 → signed 64 a ≡ signed 64 b → a ≡ b
signed_injective a b p q e = sym (of_z-to_z w64 a p) ∙ ap (cast_unsigned w64) (sym (signed_cast a p) ∙ e ∙ signed_cast b q) ∙ of_z-to_z w64 b q

-- ## Constants

-- a literal is the number of its bits
pub constant_bits : (k : Number) → inverse 64 (pos k.value) < 2 ^ 64
constant_bits k = let h = k.small in omega (arith, h)

pub constant_signed : (k : Number) → signed 64 (inverse 64 (pos k.value)) ≡ pos k.value
constant_signed k = let h = k.small in signed_low k.value (omega (arith, h))

pub zero_signed : signed 64 0 ≡ pos 0
zero_signed = refl

pub one_signed : signed 64 1 ≡ pos 1
one_signed = refl

-- those of -1 are 2^64 - 1
pub minus_one_bits : inverse 64 (negsuc 0) < 2 ^ 64
minus_one_bits = lit< tt

pub minus_one_signed : signed 64 (inverse 64 (negsuc 0)) ≡ negsuc 0
minus_one_signed = refl

-- ## Sums, differences and products

remainder_bits : (n : ℕ) → n % 2 ^ 64 < 2 ^ 64
remainder_bits n = mod-lt n (lit< tt)

pub add_bits : (a b : ℕ) → iadd 64 a b < 2 ^ 64
add_bits a b = remainder_bits (a + b)

pub add_signed : (a b : ℕ) → a < 2 ^ 64 → b < 2 ^ 64 → signed 64 (iadd 64 a b) ≡ wrap (signed 64 a +ℤ signed 64 b)
add_signed a b p q = signed_cast (iadd 64 a b) (add_bits a b) ∙ wrapping_add-bits w64 a b p q ∙ sym (λ i. int_wrap w64 (signed_cast a p i +ℤ signed_cast b q i))

pub subtract_bits : (a b : ℕ) → isub 64 a b < 2 ^ 64
subtract_bits a b = remainder_bits (a + 2 ^ 64 - b)

pub subtract_signed : (a b : ℕ) → a < 2 ^ 64 → b < 2 ^ 64 → signed 64 (isub 64 a b) ≡ wrap (signed 64 a -ℤ signed 64 b)
subtract_signed a b p q =
    let same : a + 2 ^ 64 - b ≡ a + (2 ^ 64 - b) = omega (arith, q) in
    signed_cast (isub 64 a b) (subtract_bits a b) ∙ ap (λ (n : ℕ). cast_signed w64 (n % 2 ^ 64)) same ∙ wrapping_sub-bits w64 a b p q
    ∙ sym (λ i. int_wrap w64 (signed_cast a p i -ℤ signed_cast b q i))

pub multiply_bits : (a b : ℕ) → imul 64 a b < 2 ^ 64
multiply_bits a b = remainder_bits (a * b)

pub multiply_signed : (a b : ℕ) → a < 2 ^ 64 → b < 2 ^ 64 → signed 64 (imul 64 a b) ≡ wrap (signed 64 a *ℤ signed 64 b)
multiply_signed a b p q = signed_cast (imul 64 a b) (multiply_bits a b) ∙ wrapping_mul-bits w64 a b p q ∙ sym (λ i. int_wrap w64 (signed_cast a p i *ℤ signed_cast b q i))

-- a * -1 is -a
times_minus_one : (z : ℤ) → z *ℤ negsuc 0 ≡ neg_ℤ z
times_minus_one (pos n) = let e : n * 1 ≡ n = omega arith in ap (λ (k : ℕ). neg_ℤ (pos k)) e
times_minus_one (negsuc n) = let e : suc n * 1 ≡ suc n = omega arith in ap pos e

-- so the product with the bits of -1 is unary minus
pub minus_signed : (a : ℕ) → a < 2 ^ 64 → signed 64 (imul 64 a (2 ^ 64 - 1)) ≡ wrap (neg_ℤ (signed 64 a))
minus_signed a p = multiply_signed a (2 ^ 64 - 1) p (lit< tt) ∙ ap wrap (times_minus_one (signed 64 a))

-- ## Readings by their signs

-- bits, and the number that they are
pub data Reading : ℕ → ℤ → Type 0 where
  low : {n : ℕ} → n < 2 ^ 63 → Reading n (pos n)
  high : {n k : ℕ} → n + suc k ≡ 2 ^ 64 → k < 2 ^ 63 → Reading n (negsuc k)

pub reading : (n : ℕ) → n < 2 ^ 64 → Reading n (signed 64 n)
reading n h = elim (cases_lt n (2 ^ 63)) [
  | inl small ↦ subst (λ (z : ℤ). Reading n z) (sym (signed_low n small)) (low small)
  | inr large ↦
      let e : n + suc (2 ^ 64 - suc n) ≡ 2 ^ 64 = omega (arith, h) in let less : 2 ^ 64 - suc n < 2 ^ 63 = omega (arith, large) in
      subst (λ (z : ℤ). Reading n z) (sym (signed_high n (2 ^ 64 - suc n) e less)) (high e less)
]

-- ## Conditions and comparisons

not_zero : (n : ℕ) → nat_eq (suc n) 0 ≡ false
not_zero n = ne_eqb (suc n) 0 (λ (e : suc n ≡ 0). omega (arith, e))

zero_reading : {n : ℕ} {z : ℤ} → Reading n z → nat_eq n 0 ≡ not (holds z)
zero_reading (low {n = zero} h) = refl
zero_reading (low {n = suc n} h) = not_zero n
zero_reading (high {n = n} {k = k} e h) = ne_eqb n 0 (λ (q : n ≡ 0). omega (arith, q, e, h))

-- the only bits whose number doesn't hold are 0
pub zero_bits : (a : ℕ) → a < 2 ^ 64 → nat_eq a 0 ≡ not (holds (signed 64 a))
zero_bits a p = zero_reading (reading a p)

equal_bits : (a b : ℕ) → a < 2 ^ 64 → b < 2 ^ 64 → nat_eq a b ≡ int_eq (signed 64 a) (signed 64 b)
equal_bits a b p q = same_from_decides (nat_eq a b) (int_eq (signed 64 a) (signed 64 b)) (Decides-eqb a b)
    (Decides-like (int_eq (signed 64 a) (signed 64 b)) (signed_injective a b p q) (λ (e : a ≡ b). ap (signed 64) e) (Decides-int_eq (signed 64 a) (signed 64 b)))

-- 1 where the comparison holds, and else 0
pub compared_bits : (o : Comparison) (a b : ℕ) → a < 2 ^ 64 → b < 2 ^ 64 → relop (relop_of o) 64 a b ≡ bit.truth (compare o (signed 64 a) (signed 64 b))
compared_bits Equal a b p q = ap bit.truth (equal_bits a b p q)
compared_bits NotEqual a b p q = ap (λ (t : Bool). bit.truth (not t)) (equal_bits a b p q)
compared_bits Less a b p q = refl
compared_bits AtMost a b p q = refl
compared_bits Greater a b p q = refl
compared_bits AtLeast a b p q = refl

pub truth_bits : (t : Bool) → bit.truth t < 2 ^ 64
truth_bits true = lit< tt
truth_bits false = lit< tt

pub truth_signed : (t : Bool) → signed 64 (bit.truth t) ≡ truth t
truth_signed true = refl
truth_signed false = refl

-- ## Arithmetic

-- what the script computes, and what the machine does
pub data Answers : Computed → Result ℕ NumFault → Type 0 where
  answers_number : {z : ℤ} {n : ℕ} → n < 2 ^ 64 → signed 64 n ≡ z → Answers (Is z) (Ok n)
  divides_by_zero : Answers (Faulty DivZero) (Err fault.DivZero)
  overflows : Answers (Faulty Overflow) (Err fault.Overflow)

answers_low : (n : ℕ) → n < 2 ^ 63 → Answers (Is (pos n)) (Ok n)
answers_low n h = answers_number (omega (arith, h)) (signed_low n h)

answers_negative : (k : ℕ) → k < 2 ^ 63 → Answers (Is (negsuc k)) (Ok (inverse 64 (negsuc k)))
answers_negative k h = answers_number (omega (arith, h)) (signed_high (2 ^ 64 - (k + 1)) k (omega (arith, h)) h)

-- a number that isn't positive
answers_negated : (r : ℕ) → r ≤ 2 ^ 63 → Answers (Is (neg_ℤ (pos r))) (Ok (inverse 64 (neg_ℤ (pos r))))
answers_negated zero h = answers_low 0 (lit< tt)
answers_negated (suc r) h = answers_negative r (omega (arith, h))

quotient_low : (q : ℕ) → q < 2 ^ 63 → Answers (Is (pos q)) (quotient_bits 64 (pos q))
quotient_low q h = rw (ne_eqb q (2 ^ 63) (λ (e : q ≡ 2 ^ 63). omega (arith, e, h))) (answers_low q h)

quotient_negated : (r : ℕ) → r ≤ 2 ^ 63 → Answers (Is (neg_ℤ (pos r))) (quotient_bits 64 (neg_ℤ (pos r)))
quotient_negated zero h = quotient_low 0 (lit< tt)
quotient_negated (suc r) h = answers_negative r (omega (arith, h))

-- the quotient of two negative numbers has its place, unless it is that of the least one and -1
small_quotient : (a b : ℕ) → a < 2 ^ 63 → ((a ≡ 2 ^ 63 - 1) × (b ≡ 0) → ⊥) → suc a / suc b < 2 ^ 63
small_quotient a b h n = elim (cases_eq b 0) [
  | inl e ↦ (div-lt_iff_lt-mul (omega arith)).1 (let m : (a ≡ 2 ^ 63 - 1) → ⊥ = λ (q : a ≡ 2 ^ 63 - 1). n (q, e) in omega (arith, h, e, m))
  | inr m ↦ (div-lt_iff_lt-mul (omega arith)).1 (omega (arith, h, m))
]

-- the test for the least number and -1 finds no others
overflow_apart : (a b : ℕ) → (int_eq (negsuc a) least && int_eq (negsuc b) minus_one) ≡ false → ((a ≡ 2 ^ 63 - 1) × (b ≡ 0) → ⊥)
overflow_apart a b e p = let q : (int_eq (negsuc a) least && int_eq (negsuc b) minus_one) ≡ true = λ i. int_eq (negsuc (p.0 i)) least && int_eq (negsuc (p.1 i)) minus_one in
    false≢true (sym e ∙ q)

-- and these two have the quotient 2^63
overflow_quotient : (a b : ℕ) → (int_eq (negsuc a) least && int_eq (negsuc b) minus_one) ≡ true → suc a / suc b ≡ 2 ^ 63
overflow_quotient a b e =
    let p = and_parts (int_eq (negsuc a) least) (int_eq (negsuc b) minus_one) e in
    let x : suc a ≡ 2 ^ 63 = ap unsigned_abs ((Decides-int_eq (negsuc a) least).0 p.0) in
    let y : suc b ≡ 1 = ap unsigned_abs ((Decides-int_eq (negsuc b) minus_one).0 p.1) in
    λ i. x i / y i

-- the quotient of two negative numbers, or the overflow
both_negative : (a b : ℕ) → a < 2 ^ 63 → (t : Bool) → (int_eq (negsuc a) least && int_eq (negsuc b) minus_one) ≡ t
    → Answers (if t then Faulty Overflow else Is (pos (suc a / suc b))) (quotient_bits 64 (pos (suc a / suc b)))
both_negative a b h true e = rw (eq-eqb (suc a / suc b) (2 ^ 63) (overflow_quotient a b e)) overflows
both_negative a b h false e = quotient_low (suc a / suc b) (small_quotient a b h (overflow_apart a b e))

quotient_answers : {a b : ℕ} {x y : ℤ} → Reading a x → Reading b y
    → Answers (compute Divide x y) (if nat_eq b 0 then Err fault.DivZero else quotient_bits 64 (int_div x y))
quotient_answers r (low {n = zero} k) = divides_by_zero
quotient_answers (low {n = a} h) (low {n = suc b} k) = rw (not_zero b) (quotient_low (a / suc b) (let q = div-le_self a (suc b) in omega (arith, h, q)))
quotient_answers (high {k = a} e h) (low {n = suc b} k) = rw (not_zero b, and_right (int_eq (negsuc a) least) false refl) (quotient_negated (suc a / suc b) (let q = div-le_self (suc a) (suc b) in omega (arith, h, q)))
quotient_answers (low {n = a} h) (high {k = b} f k) = rw (zero_reading (high f k)) (quotient_negated (a / suc b) (let q = div-le_self a (suc b) in omega (arith, h, q)))
quotient_answers (high {k = a} e h) (high {k = b} f k) = rw (zero_reading (high f k)) (both_negative a b h (int_eq (negsuc a) least && int_eq (negsuc b) minus_one) refl)

remainder_of : {a : ℕ} {x : ℤ} (y : ℤ) → Reading a x → Answers (Is (int_rem x y)) (Ok (inverse 64 (int_rem x y)))
remainder_of y (low {n = a} h) = answers_low (a % unsigned_abs y) (let q = mod-le a (unsigned_abs y) in omega (arith, h, q))
remainder_of y (high {k = a} e h) = answers_negated (suc a % unsigned_abs y) (let q = mod-le (suc a) (unsigned_abs y) in omega (arith, h, q))

remainder_answers : {a b : ℕ} {x y : ℤ} → Reading a x → Reading b y
    → Answers (compute Remainder x y) (if nat_eq b 0 then Err fault.DivZero else Ok (inverse 64 (int_rem x y)))
remainder_answers r (low {n = zero} k) = divides_by_zero
remainder_answers r (low {n = suc b} k) = rw (not_zero b) (remainder_of (pos (suc b)) r)
remainder_answers r (high {k = b} f k) = rw (zero_reading (high f k)) (remainder_of (negsuc b) r)

-- the machine does what the script computes
pub arithmetic_answers : (o : Arithmetic) (a b : ℕ) → a < 2 ^ 64 → b < 2 ^ 64 → Answers (compute o (signed 64 a) (signed 64 b)) (binop (binop_of o) 64 a b)
arithmetic_answers Add a b p q = answers_number (add_bits a b) (add_signed a b p q)
arithmetic_answers Subtract a b p q = answers_number (subtract_bits a b) (subtract_signed a b p q)
arithmetic_answers Multiply a b p q = answers_number (multiply_bits a b) (multiply_signed a b p q)
arithmetic_answers Divide a b p q = quotient_answers (reading a p) (reading b q)
arithmetic_answers Remainder a b p q = remainder_answers (reading a p) (reading b q)
