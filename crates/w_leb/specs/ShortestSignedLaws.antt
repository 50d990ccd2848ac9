-- The shortest signed spelling is one, and is no longer than any.
use Rattle.std.proofs.Common.{◌≡◌, ℕ, zero, suc, ◌+◌, ◌-◌, ◌*◌, ◌/◌, ◌%◌, ◌^◌, ◌<◌, ◌≤◌, ◌⊎◌, inl, inr, List, [], ◌∷◌, length, refl, sym, ap, subst, ◌∙◌, arith, ℤ, pos, negsuc, ◌+ℤ◌, ◌-ℤ◌, ◌*ℤ◌}
use Rattle.std.proofs.lemmas.Bool.{cases_lt, lt-ltb, le-ltb}
use Rattle.std.proofs.lemmas.Nat.{pow-add}
use Rattle.std.proofs.lemmas.Int.{ints}
use Rattle.std.proofs.Math.Pow.{pow_mono}
use Rattle.w_leb.specs.Number.{Signed, IsInBits, signed_in, shortest_signed, size_of}
use Rattle.w_leb.specs.NumberLaws.{signed_more}

-- seven more bits hold 128 times as much on either side of 0
pub half : (w : ℕ) → 7 < w → 2 ^ (w - 1) ≡ 128 * 2 ^ (w - 7 - 1)
half w h = let e : w - 1 ≡ 7 + (w - 7 - 1) = omega arith in ap (λ (k : ℕ). 2 ^ k) e ∙ pow-add 2 7 (w - 7 - 1)

-- a number of more than one byte takes more than seven bits
wide_from : (w n : ℕ) → 64 ≤ n → n < 2 ^ (w - 1) → 7 < w
wide_from w n h lt = elim (cases_lt 7 w) [
  | inl wide ↦ wide
  | inr narrow ↦ let p : 2 ^ (w - 1) ≤ 2 ^ 6 = pow_mono {i = w - 1} {j = 6} (omega arith) in absurd (omega arith)
]

-- a byte below 64 spells itself
low_byte : (w n : ℕ) → n < 64 → n < 2 ^ (w - 1) → Signed w (n ∷ []) (pos n)
unfolding Signed
low_byte w n h lt = inl (h, lt, refl)

-- a negative number by its size
below : (n : ℕ) → negsuc n ≡ pos 0 -ℤ pos (suc n)
below n = omega (arith, ints)

-- a byte from 64 to 127 spells a negative number
up_byte : (w n : ℕ) → n < 64 → n < 2 ^ (w - 1) → Signed w ((127 - n) ∷ []) (negsuc n)
unfolding Signed
up_byte w n h lt = let e : 128 - (127 - n) ≡ suc n = omega arith in inr (omega arith, omega arith, omega arith, below n ∙ sym (ap (λ (k : ℕ). pos 0 -ℤ pos k) e))

-- the shortest spelling is one at each width that holds the number, by its size
pub signed_spells : (k w : ℕ) (z : ℤ) → w ≤ 7 * (k + 1) → size_of z < 2 ^ (w - 1) → Signed w (signed_in k z) z
unfolding signed_in
signed_spells zero w (pos n) le lt = let p : 2 ^ (w - 1) ≤ 2 ^ 6 = pow_mono {i = w - 1} {j = 6} (omega arith) in low_byte w n (omega arith) lt
signed_spells zero w (negsuc n) le lt = let p : 2 ^ (w - 1) ≤ 2 ^ 6 = pow_mono {i = w - 1} {j = 6} (omega arith) in up_byte w n (omega arith) lt
signed_spells (suc k) w (pos n) le lt =
    elim (cases_lt n 64) [
      | inl small ↦ rw (lt-ltb n 64 small) (low_byte w n small lt)
      | inr big ↦
          let wide = wide_from w n big lt in
          let again = signed_spells k (w - 7) (pos (n / 128)) (omega arith) (omega (arith, half w wide)) in
          let value : pos (n % 128 + 128 - 128) +ℤ pos 128 *ℤ pos (n / 128) ≡ pos n = omega (arith, ints) in
          rw (le-ltb n 64 big) (subst (Signed w ((n % 128 + 128) ∷ signed_in k (pos (n / 128)))) value (signed_more w (n % 128 + 128) (signed_in k (pos (n / 128))) (pos (n / 128)) (omega arith) (omega arith) wide again))
    ]
signed_spells (suc k) w (negsuc n) le lt =
    elim (cases_lt n 64) [
      | inl small ↦ rw (lt-ltb n 64 small) (up_byte w n small lt)
      | inr big ↦
          let wide = wide_from w n big lt in
          let again = signed_spells k (w - 7) (negsuc (n / 128)) (omega arith) (omega (arith, half w wide)) in
          let value : pos (255 - n % 128 - 128) +ℤ pos 128 *ℤ negsuc (n / 128) ≡ negsuc n = omega (arith, ints) in
          rw (le-ltb n 64 big) (subst (Signed w ((255 - n % 128) ∷ signed_in k (negsuc (n / 128)))) value (signed_more w (255 - n % 128) (signed_in k (negsuc (n / 128))) (negsuc (n / 128)) (omega arith) (omega arith) wide again))
    ]

-- a spelling has at least one byte
pub some_bytes : (w : ℕ) (z : ℤ) (b : List ℕ) → Signed w b z → 0 < length b
unfolding Signed
some_bytes w z [] h = absurd h
some_bytes w z (x ∷ b) h = omega arith

-- what a spelling says of how large its number is
one_small : (w : ℕ) (z : ℤ) (x : ℕ) → Signed w (x ∷ []) z → (size_of z < 64) × (size_of z < 2 ^ (w - 1))
unfolding Signed
one_small w (pos n) x (inl h) = (omega (arith, ints, h.0, h.2), omega (arith, ints, h.1, h.2))
one_small w (negsuc n) x (inl h) = (omega (arith, ints, h.0, h.2), omega (arith, ints, h.1, h.2))
one_small w (pos n) x (inr h) = (omega (arith, ints, h.0, h.1, h.2, h.3), omega (arith, ints, h.0, h.1, h.2, h.3))
one_small w (negsuc n) x (inr h) = (omega (arith, ints, h.0, h.1, h.2, h.3), omega (arith, ints, h.0, h.1, h.2, h.3))

-- the size of what the other bytes stand for
parts : (z high : ℤ) (x : ℕ) → 128 ≤ x → x < 256 → z ≡ pos (x - 128) +ℤ pos 128 *ℤ high → ((n : ℕ) × (z ≡ pos n) × (high ≡ pos (n / 128)) × (n ≡ x - 128 + 128 * (n / 128))) ⊎ ((n : ℕ) × (z ≡ negsuc n) × (high ≡ negsuc (n / 128)) × (n + x ≡ 255 + 128 * (n / 128)))
parts (pos n) (pos m) x lo hi e = let k : m ≡ n / 128 = omega (arith, ints, e) in inl (n, refl, ap (λ (j : ℕ). pos j) k, omega (arith, ints, e))
parts (pos n) (negsuc m) x lo hi e = absurd (omega (arith, ints, e))
parts (negsuc n) (pos m) x lo hi e = absurd (omega (arith, ints, e))
parts (negsuc n) (negsuc m) x lo hi e = let k : m ≡ n / 128 = omega (arith, ints, e) in inr (n, refl, ap (λ (j : ℕ). negsuc j) k, omega (arith, ints, e))

-- a number that is spelled at a width is within its bits
pub within_bits : (w : ℕ) (z : ℤ) (b : List ℕ) → Signed w b z → size_of z < 2 ^ (w - 1)
unfolding Signed
within_bits w z [] h = absurd h
within_bits w z (x ∷ []) h = (one_small w z x h).1
within_bits w z (x ∷ c ∷ bs) h =
    let again = within_bits (w - 7) h.3 (c ∷ bs) h.4 in
    elim (parts z h.3 x h.0 h.1 h.5) [
      | inl p ↦ let a : p.0 / 128 < 2 ^ (w - 7 - 1) = subst (λ (v : ℤ). size_of v < 2 ^ (w - 7 - 1)) p.2 again in rw p.1 (omega (arith, half w h.2, a))
      | inr p ↦ let a : p.0 / 128 < 2 ^ (w - 7 - 1) = subst (λ (v : ℤ). size_of v < 2 ^ (w - 7 - 1)) p.2 again in rw p.1 (omega (arith, half w h.2, a))
    ]

-- one byte more, of a number from 0 on
more_pos : (k n l : ℕ) → length (signed_in k (pos (n / 128))) ≤ suc l → length (signed_in (suc k) (pos n)) ≤ suc (suc l)
unfolding signed_in
more_pos k n l h = elim (cases_lt n 64) [ inl small ↦ rw (lt-ltb n 64 small) (omega arith) | inr big ↦ rw (le-ltb n 64 big) (omega (arith, h)) ]

-- one byte more, of a negative number
more_neg : (k n l : ℕ) → length (signed_in k (negsuc (n / 128))) ≤ suc l → length (signed_in (suc k) (negsuc n)) ≤ suc (suc l)
unfolding signed_in
more_neg k n l h = elim (cases_lt n 64) [ inl small ↦ rw (lt-ltb n 64 small) (omega arith) | inr big ↦ rw (le-ltb n 64 big) (omega (arith, h)) ]

-- no spelling at any width is shorter
pub signed_is_short : (k w : ℕ) (z : ℤ) (b : List ℕ) → Signed w b z → length (signed_in k z) ≤ length b
unfolding Signed signed_in
signed_is_short zero w (pos n) b h = omega (arith, some_bytes w (pos n) b h)
signed_is_short zero w (negsuc n) b h = omega (arith, some_bytes w (negsuc n) b h)
signed_is_short (suc k) w z [] h = absurd h
signed_is_short (suc k) w (pos n) (x ∷ []) h = rw (lt-ltb n 64 (one_small w (pos n) x h).0) (omega arith)
signed_is_short (suc k) w (negsuc n) (x ∷ []) h = rw (lt-ltb n 64 (one_small w (negsuc n) x h).0) (omega arith)
signed_is_short (suc k) w z (x ∷ c ∷ bs) h =
    let again = signed_is_short k (w - 7) h.3 (c ∷ bs) h.4 in
    elim (parts z h.3 x h.0 h.1 h.5) [
      | inl p ↦
          let a : length (signed_in k (pos (p.0 / 128))) ≤ suc (length bs) = subst (λ (v : ℤ). length (signed_in k v) ≤ suc (length bs)) p.2 again in
          rw p.1 (more_pos k p.0 (length bs) a)
      | inr p ↦
          let a : length (signed_in k (negsuc (p.0 / 128))) ≤ suc (length bs) = subst (λ (v : ℤ). length (signed_in k v) ≤ suc (length bs)) p.2 again in
          rw p.1 (more_neg k p.0 (length bs) a)
    ]

-- a number within some bits has a size within one fewer
pub size_in_bits : (w : ℕ) (z : ℤ) → IsInBits w z → size_of z < 2 ^ (w - 1)
size_in_bits w (pos n) h = omega (arith, ints, h.1)
size_in_bits w (negsuc n) h = omega (arith, ints, h.0)

-- the shortest spelling is one at each width that holds the number, as contracts say it
pub shortest_in_bits : (w : ℕ) (z : ℤ) → w ≤ 70 → IsInBits w z → Signed w (shortest_signed z) z
shortest_in_bits w z le h = signed_spells 9 w z (omega arith) (size_in_bits w z h)
