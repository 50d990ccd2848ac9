-- A non-negative s33 is also a u32: the same bytes spell the same number.
use Rattle.std.proofs.Common.{◌≡◌, ℕ, zero, suc, ◌+◌, ◌-◌, ◌*◌, ◌/◌, ◌^◌, ◌<◌, ◌≤◌, ◌⊎◌, List, [], ◌∷◌, length, refl, sym, subst, arith, ℤ, pos, negsuc, ◌+ℤ◌, ◌*ℤ◌, inl, inr}
use Rattle.std.proofs.lemmas.Int.{ints}
use Rattle.std.proofs.lemmas.Bool.{cases_lt, lt-ltb, le-ltb}
use Rattle.w_leb.specs.Number.{Unsigned, Signed, shortest_in, signed_in}

natural_parts : (x n : ℕ) (z : ℤ) → 128 ≤ x → x < 256 → pos n ≡ pos (x - 128) +ℤ pos 128 *ℤ z → (m : ℕ) × (z ≡ pos m) × (n ≡ x - 128 + 128 * m)
natural_parts x n (pos m) lo hi e = (m, refl, omega (arith, ints, e))
natural_parts x n (negsuc m) lo hi e = absurd (omega (arith, ints, e))

-- at widths that are 5 more than a multiple of 7
natural_unsigned : (k : ℕ) (b : List ℕ) (n : ℕ) → Signed (5 + 7 * k) b (pos n) → Unsigned (4 + 7 * k) b n
unfolding Signed Unsigned
natural_unsigned k [] n h = absurd h
natural_unsigned k (x ∷ []) n (inl h) = let w : 5 + 7 * k - 1 ≡ 4 + 7 * k = omega arith in let m : n ≡ x = omega (arith, ints, h.2) in (omega (arith, h.0), subst (λ (v : ℕ). x < 2 ^ v) w h.1, m)
natural_unsigned k (x ∷ []) n (inr h) = absurd (omega (arith, ints, h.0, h.1, h.3))
natural_unsigned zero (x ∷ c ∷ bs) n h = absurd (omega (arith, h.2))
natural_unsigned (suc k) (x ∷ c ∷ bs) n h =
    let w : 5 + 7 * suc k - 7 ≡ 5 + 7 * k = omega arith in
    let v : 4 + 7 * suc k - 7 ≡ 4 + 7 * k = omega arith in
    let t = natural_parts x n h.3 h.0 h.1 h.5 in
    let again = natural_unsigned k (c ∷ bs) t.0 (subst (λ (z : ℤ). Signed (5 + 7 * k) (c ∷ bs) z) t.1 (subst (λ (u : ℕ). Signed u (c ∷ bs) h.3) w h.4)) in
    (h.0, h.1, omega arith, t.0, subst (λ (u : ℕ). Unsigned u (c ∷ bs) t.0) (sym v) again, t.2)

pub index_is_u32 : (b : List ℕ) (n : ℕ) → Signed 33 b (pos n) → Unsigned 32 b n
index_is_u32 b n h = natural_unsigned 4 b n h

-- a spelling of one that is not negative begins with a byte below 64 or with one that others follow
pub natural_begins : (w k : ℕ) (b : List ℕ) (n : ℕ) → Signed w (k ∷ b) (pos n) → (k < 64) ⊎ (128 ≤ k)
unfolding Signed
natural_begins w k [] n (inl h) = inl (omega (arith, h.0))
natural_begins w k [] n (inr h) = absurd (omega (arith, ints, h.0, h.1, h.3))
natural_begins w k (c ∷ b) n h = inr (omega (arith, h.0))

some_byte : (k n : ℕ) → 0 < length (shortest_in k n)
unfolding shortest_in
some_byte zero n = omega arith
some_byte (suc k) n = elim (cases_lt n 128) [ inl h ↦ rw (lt-ltb n 128 h) (omega arith) | inr h ↦ rw (le-ltb n 128 h) (omega arith) ]

one_byte : (k : ℕ) → length (signed_in k (pos 0)) ≡ 1
unfolding signed_in
one_byte zero = refl
one_byte (suc k) = refl

-- it takes at most one byte more than as an unsigned number
pub signed_is_longer : (k n : ℕ) → length (signed_in k (pos n)) ≤ suc (length (shortest_in k n))
unfolding signed_in shortest_in
signed_is_longer zero n = omega arith
signed_is_longer (suc k) n =
    elim (cases_lt n 64) [
      | inl small ↦ rw (lt-ltb n 64 small) (omega arith)
      | inr big ↦ elim (cases_lt n 128) [
        | inl low ↦ let none : n / 128 ≡ 0 = omega arith in rw (le-ltb n 64 big, lt-ltb n 128 low, none) (omega (arith, one_byte k))
        | inr high ↦ rw (le-ltb n 64 big, le-ltb n 128 high) (omega (arith, signed_is_longer k (n / 128)))
      ]
    ]
