-- The counts of a number's bits, as the machine takes them, are those of its sequence of bits.
use Rattle.std.proofs.Common.{◌≡◌, ℕ, zero, suc, ◌+◌, ◌/◌, ◌%◌, ◌^◌, ◌<◌, ◌≤◌, inl, inr, List, [], ◌∷◌, ◌++◌, refl, sym, ap, ◌∙◌, arith}
use Rattle.std.specs.Prelude.{reverse, sum}
use Rattle.std.specs.Int.Count.{ones, ones_step, count_leading_zeros, count_trailing_zeros, under, ones_in, leading_unique}
use Rattle.std.proofs.lemmas.Bool.{cases_lt}
use Rattle.std.proofs.lemmas.Nat.{leading_length, pow_pos, le-div, div_below}
use Rattle.std.proofs.lemmas.Nat.Bits.{bit_at_lowest, bit_at-suc, bit_at_above}
use Rattle.std.proofs.lemmas.List.{reverse-append}
use Rattle.std.proofs.lemmas.List.Sums.{fold_push}
use Rattle.std.proofs.Math.Nat.{pow-suc, le_refl}
use Rattle.w_num.specs.Bits.{ibits, leading, iclz, ictz, ipopcnt}

-- the last bit, and the bits before it
ibits-suc : (k n : ℕ) → ibits (suc k) n ≡ ibits k (n / 2) ++ n % 2 ∷ []
unfolding ibits
ibits-suc zero n = ap (λ (d : ℕ). d ∷ []) (bit_at_lowest n)
ibits-suc (suc k) n =
    let high : n / 2 ^ suc k % 2 ≡ n / 2 / 2 ^ k % 2 = bit_at-suc n k in
    let low : ibits (suc k) n ≡ ibits k (n / 2) ++ n % 2 ∷ [] = ibits-suc k n in
    cc

-- ## Leading zeros

leading_zero : (d : ℕ) (ds : List ℕ) → d ≡ 0 → leading (d ∷ ds) ≡ suc (leading ds)
unfolding leading
leading_zero zero ds e = refl
leading_zero (suc d) ds e = absurd cc

leading_one : (d : ℕ) (ds : List ℕ) → d ≡ 1 → leading (d ∷ ds) ≡ 0
unfolding leading
leading_one zero ds e = absurd cc
leading_one (suc d) ds e = refl

-- one digit more in front of a number that doesn't reach it
one_more : (k n : ℕ) → n < 2 ^ k → suc (count_leading_zeros k n) ≡ count_leading_zeros (suc k) n
one_more k n h = let l = leading_length k n h in leading_unique (suc k) n (suc (count_leading_zeros k n)) l.0 (omega (arith, l.1)) l.2 l.3

reaches : (k n : ℕ) → 2 ^ k ≤ n → n < 2 ^ suc k → 0 ≡ count_leading_zeros (suc k) n
reaches k n le h = leading_unique (suc k) n 0 (suc k) (omega arith) h (omega (arith, pow-suc 2 k))

-- the bit in front of a number that has it
top_bit : (k n : ℕ) → 2 ^ k ≤ n → n < 2 ^ suc k → n / 2 ^ k % 2 ≡ 1
top_bit k n le h = let q : n / 2 ^ k ≡ 1 = omega (arith, le-div 1 n (2 ^ k) (pow_pos k) (omega arith), div_below n (2 ^ k) 2 (pow_pos k) (omega (arith, pow-suc 2 k))) in ap (λ (d : ℕ). d % 2) q

-- the machine's count of leading zeros
pub iclz_is : (N n : ℕ) → n < 2 ^ N → count_leading_zeros N n ≡ iclz N n
unfolding ibits leading count_leading_zeros
iclz_is zero n h = refl
iclz_is (suc k) n h = elim (cases_lt n (2 ^ k)) [
  | inl small ↦ sym (one_more k n small) ∙ ap suc (iclz_is k n small) ∙ sym (leading_zero (n / 2 ^ k % 2) (ibits k n) (bit_at_above n k k small (le_refl k)))
  | inr big ↦ sym (reaches k n big h) ∙ sym (leading_one (n / 2 ^ k % 2) (ibits k n) (top_bit k n big h))
]

-- ## Trailing zeros

leading_under : (d : ℕ) (ds : List ℕ) → leading (d ∷ ds) ≡ under d (leading ds)
unfolding leading
leading_under zero ds = refl
leading_under (suc d) ds = refl

-- the machine's count of trailing zeros
pub ictz_is : (N n : ℕ) → count_trailing_zeros N n ≡ ictz N n
unfolding count_trailing_zeros leading ibits
ictz_is zero n = refl
ictz_is (suc k) n =
    let turned : reverse (ibits (suc k) n) ≡ n % 2 ∷ reverse (ibits k (n / 2)) = ap reverse (ibits-suc k n) ∙ reverse-append (ibits k (n / 2)) (n % 2 ∷ []) in
    ap (under (n % 2)) (ictz_is k (n / 2)) ∙ sym (ap leading turned ∙ leading_under (n % 2) (reverse (ibits k (n / 2))))

-- ## Ones

-- the machine's count of ones
pub ipopcnt_is : (N n : ℕ) → n < 2 ^ N → ones n ≡ ipopcnt N n
unfolding ibits ones ones_in
ipopcnt_is zero n h = let e : n ≡ 0 = omega arith in ap ones e
ipopcnt_is (suc k) n h =
    let last : ipopcnt (suc k) n ≡ ipopcnt k (n / 2) + n % 2 = ap sum (ibits-suc k n) ∙ fold_push (λ (a b : ℕ). a + b) 0 (ibits k (n / 2)) (n % 2) in
    let rest : ones (n / 2) ≡ ipopcnt k (n / 2) = ipopcnt_is k (n / 2) (omega (arith, pow-suc 2 k)) in
    omega (arith, ones_step n, last, rest)
