-- A rotation by two shifts is the one of the parts of a number.
use Rattle.std.proofs.Common.{◌≡◌, ℕ, zero, suc, ◌+◌, ◌-◌, ◌*◌, ◌/◌, ◌%◌, ◌^◌, ◌<◌, sym, ap, subst, ◌∙◌, bit_or, add-zero, arith}
use Rattle.std.specs.Int.Bits.{or_self}
use Rattle.std.proofs.lemmas.Nat.{mod-pow-add, shl-shr, or_shifted, or_comm, shr_below}
use Rattle.std.proofs.Math.Nat.{mul-mod_left, mod-eq_of_lt, mul-one, mod_self, div-one, mod-one, zero-mul, zero-add, div-eq_of_lt}
use Rattle.w_num.specs.Shifts.{turned}

-- what is left of n, shifted by k, in j + k bits
shl-mod : (n j k : ℕ) → n * 2 ^ k % 2 ^ (j + k) ≡ n % 2 ^ j * 2 ^ k
shl-mod n j k = rw (mod-pow-add (n * 2 ^ k) j k, shl-shr n k, mul-mod_left n (2 ^ k)) (add-zero (n % 2 ^ j * 2 ^ k))

-- the k high bits of n, behind the j others
parts : (n j k : ℕ) → n < 2 ^ (k + j) → bit_or (n * 2 ^ k % 2 ^ (j + k)) (n / 2 ^ j) ≡ n % 2 ^ j * 2 ^ k + n / 2 ^ j
parts n j k h = rw (shl-mod n j k) (or_shifted (n % 2 ^ j) k (n / 2 ^ j) (shr_below n k j h))

-- by a count that is not 0
rotl_by : (N k a : ℕ) → 0 < k → k < N → a < 2 ^ N → bit_or (a * 2 ^ k % 2 ^ N) (a / 2 ^ ((N - k) % N)) ≡ turned N k a
rotl_by N k a p lt h =
    let m : (N - k) % N ≡ N - k = mod-eq_of_lt (omega arith) in
    let e : N ≡ N - k + k = omega arith in
    let f : N ≡ k + (N - k) = omega arith in
    rw m (subst (λ (t : ℕ). bit_or (a * 2 ^ k % 2 ^ t) (a / 2 ^ (N - k)) ≡ turned N k a) (sym e) (parts a (N - k) k (subst (λ (t : ℕ). a < 2 ^ t) f h)))

rotr_by : (N k a : ℕ) → 0 < k → k < N → a < 2 ^ N → bit_or (a / 2 ^ k) (a * 2 ^ ((N - k) % N) % 2 ^ N) ≡ turned N (N - k) a
rotr_by N k a p lt h =
    let m : (N - k) % N ≡ N - k = mod-eq_of_lt (omega arith) in
    let back : N - (N - k) ≡ k = omega arith in
    let small : (N - (N - k)) % N ≡ k = ap (λ (t : ℕ). t % N) back ∙ mod-eq_of_lt lt in
    let other = rotl_by N (N - k) a (omega arith) (omega arith) h in
    rw m (or_comm (a / 2 ^ k) (a * 2 ^ (N - k) % 2 ^ N) ∙ (rw small at other))

-- the two shifts by which the machine rotates to the left
pub irotl_is : (N k a : ℕ) → k < N → a < 2 ^ N → bit_or (a * 2 ^ k % 2 ^ N) (a / 2 ^ ((N - k) % N)) ≡ turned N k a
irotl_is N zero a lt h =
    let whole : N - 0 ≡ N = omega arith in
    let same : a * 1 % 2 ^ N ≡ a = ap (λ (t : ℕ). t % 2 ^ N) (mul-one a) ∙ mod-eq_of_lt h in
    rw (whole, mod_self N, same, div-one a, or_self a, mod-eq_of_lt h, div-eq_of_lt h, mul-one a) (sym (add-zero a))
irotl_is N (suc k) a lt h = rotl_by N (suc k) a (omega arith) lt h

-- and to the right
pub irotr_is : (N k a : ℕ) → k < N → a < 2 ^ N → bit_or (a / 2 ^ k) (a * 2 ^ ((N - k) % N) % 2 ^ N) ≡ turned N (N - k) a
irotr_is N zero a lt h =
    let whole : N - 0 ≡ N = omega arith in
    let none : N - N ≡ 0 = omega arith in
    let same : a * 1 % 2 ^ N ≡ a = ap (λ (t : ℕ). t % 2 ^ N) (mul-one a) ∙ mod-eq_of_lt h in
    rw (whole, mod_self N, none, same, div-one a, or_self a, mod-one a, zero-mul (2 ^ N)) (sym (zero-add a))
irotr_is N (suc k) a lt h = rotr_by N (suc k) a (omega arith) lt h
