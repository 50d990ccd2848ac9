-- `signed` and `inverse` undo each other.
use Rattle.std.proofs.Common.{◌≡◌, ℕ, ◌+◌, ◌-◌, ◌^◌, ◌<◌, ◌≤◌, inl, inr, ℤ, pos, negsuc, ◌*◌, ◌-ℤ◌, refl, ap, ◌∙◌, arith}
use Rattle.std.proofs.lemmas.Bool.{cases_lt, lt-ltb, le-ltb}
use Rattle.std.proofs.lemmas.Int.{ints}
use Rattle.std.proofs.Math.Nat.{pow-suc}
use Rattle.w_num.specs.Signed.{signed, inverse}

below_zero : (N n : ℕ) (z : ℤ) → z ≡ pos n -ℤ pos (2 ^ N) → n < 2 ^ N → inverse N z ≡ n
below_zero N n (pos m) e h = absurd (omega (arith, ints))
below_zero N n (negsuc m) e h = omega (arith, ints)

-- the bits of the reading are those that were read
pub inverse-signed : (N n : ℕ) → n < 2 ^ N → inverse N (signed N n) ≡ n
inverse-signed N n h = elim (cases_lt n (2 ^ (N - 1))) [
  | inl low ↦ rw (lt-ltb n (2 ^ (N - 1)) low) refl
  | inr high ↦ rw (le-ltb n (2 ^ (N - 1)) high) (below_zero N n (pos n -ℤ pos (2 ^ N)) refl h)
]

-- the reading of the bits of a signed number is that number
pub signed-inverse_pos : (N n : ℕ) → n < 2 ^ (N - 1) → signed N (inverse N (pos n)) ≡ pos n
signed-inverse_pos N n h = rw (lt-ltb n (2 ^ (N - 1)) h) refl

pub signed-inverse_negsuc : (N n : ℕ) → 0 < N → n < 2 ^ (N - 1) → signed N (inverse N (negsuc n)) ≡ negsuc n
signed-inverse_negsuc N n p h =
    let whole : 2 ^ N ≡ 2 ^ (N - 1) * 2 = ap (λ (k : ℕ). 2 ^ k) (omega arith) ∙ pow-suc 2 (N - 1) in
    let high : 2 ^ (N - 1) ≤ 2 ^ N - (n + 1) = omega arith in
    rw (le-ltb (2 ^ N - (n + 1)) (2 ^ (N - 1)) high) (omega (arith, ints))
