-- The shortest spelling is one, and is no longer than any.
use Rattle.std.proofs.Common.{◌≡◌, ℕ, zero, suc, ◌+◌, ◌-◌, ◌*◌, ◌/◌, ◌%◌, ◌^◌, ◌<◌, ◌≤◌, inl, inr, List, [], ◌∷◌, length, refl, ap, subst, ◌∙◌, arith}
use Rattle.std.proofs.lemmas.Bool.{cases_lt, lt-ltb, le-ltb}
use Rattle.std.proofs.lemmas.Nat.{pow-add}
use Rattle.std.proofs.Math.Pow.{pow_mono}
use Rattle.w_leb.specs.Number.{Unsigned, shortest_in}
use Rattle.w_leb.specs.NumberLaws.{unsigned_more}

-- seven more bits hold 128 times as much
pub wider : (w : ℕ) → 7 < w → 2 ^ w ≡ 128 * 2 ^ (w - 7)
wider w h =
    let e : w ≡ 7 + (w - 7) = omega arith in
    ap (λ (k : ℕ). 2 ^ k) e ∙ pow-add 2 7 (w - 7)

-- a number of more than one byte takes more than seven bits
pub wide_from : (w n : ℕ) → 128 ≤ n → n < 2 ^ w → 7 < w
wide_from w n h lt = elim (cases_lt 7 w) [
  | inl wide ↦ wide
  | inr narrow ↦ let p : 2 ^ w ≤ 2 ^ 7 = pow_mono {i = w} {j = 7} narrow in absurd (omega arith)
]

-- a byte below 128 spells itself
one_byte : (w n : ℕ) → n < 128 → n < 2 ^ w → Unsigned w (n ∷ []) n
unfolding Unsigned
one_byte w n h lt = (h, lt, refl)

-- the shortest spelling is one at each width that holds the number
pub shortest_spells : (k w n : ℕ) → w ≤ 7 * (k + 1) → n < 2 ^ w → Unsigned w (shortest_in k n) n
unfolding shortest_in
shortest_spells zero w n le lt = let p : 2 ^ w ≤ 2 ^ 7 = pow_mono {i = w} {j = 7} (omega arith) in one_byte w n (omega arith) lt
shortest_spells (suc k) w n le lt =
    elim (cases_lt n 128) [
      | inl small ↦ rw (lt-ltb n 128 small) (one_byte w n small lt)
      | inr big ↦
          let wide = wide_from w n big lt in
          let e = wider w wide in
          let again = shortest_spells k (w - 7) (n / 128) (omega arith) (omega (arith, e)) in
          let value : n % 128 + 128 - 128 + 128 * (n / 128) ≡ n = omega arith in
          rw (le-ltb n 128 big) (subst (Unsigned w ((n % 128 + 128) ∷ shortest_in k (n / 128))) value (unsigned_more w (n % 128 + 128) (shortest_in k (n / 128)) (n / 128) (omega arith) (omega arith) wide again))
    ]

-- a spelling has at least one byte
pub some_bytes : (w n : ℕ) (b : List ℕ) → Unsigned w b n → 0 < length b
unfolding Unsigned
some_bytes w n [] h = absurd h
some_bytes w n (x ∷ b) h = omega arith

-- no spelling at any width is shorter
pub shortest_is_short : (k w n : ℕ) (b : List ℕ) → Unsigned w b n → length (shortest_in k n) ≤ length b
unfolding Unsigned shortest_in
shortest_is_short zero w n b h = omega (arith, some_bytes w n b h)
shortest_is_short (suc k) w n [] h = absurd h
shortest_is_short (suc k) w n (x ∷ []) h = let small : n < 128 = omega (arith, h.2, h.0) in rw (lt-ltb n 128 small) (omega arith)
shortest_is_short (suc k) w n (x ∷ c ∷ bs) h =
    elim (cases_lt n 128) [
      | inl small ↦ rw (lt-ltb n 128 small) (omega arith)
      | inr big ↦
          let high : n / 128 ≡ h.3 = omega (arith, h.5, h.0, h.1) in
          let again = shortest_is_short k (w - 7) h.3 (c ∷ bs) h.4 in
          rw (le-ltb n 128 big, high) (omega (arith, again))
    ]

-- a number that is spelled at a width is within its bits
pub within_bits : (w n : ℕ) (b : List ℕ) → Unsigned w b n → n < 2 ^ w
unfolding Unsigned
within_bits w n [] h = absurd h
within_bits w n (x ∷ []) h = omega (arith, h.1, h.2)
within_bits w n (x ∷ c ∷ bs) h = let e = wider w h.2 in omega (arith, e, within_bits (w - 7) h.3 (c ∷ bs) h.4, h.5, h.0, h.1)

-- below 128 it is one byte
tiny : (k m : ℕ) → m < 128 → length (shortest_in k m) ≡ 1
unfolding shortest_in
tiny zero m h = refl
tiny (suc k) m h = rw (lt-ltb m 128 h) refl

-- twice the number takes at most one byte more
pub twice : (k m n : ℕ) → m ≤ 2 * n + 1 → length (shortest_in k m) ≤ 1 + length (shortest_in k n)
unfolding shortest_in
twice zero m n le = omega arith
twice (suc k) m n le =
    elim (cases_lt m 128) [
      | inl small ↦ rw (lt-ltb m 128 small) (omega arith)
      | inr big ↦ elim (cases_lt n 128) [
        | inl low ↦ rw (le-ltb m 128 big, lt-ltb n 128 low) (omega (arith, tiny k (m / 128) (omega arith)))
        | inr high ↦ rw (le-ltb m 128 big, le-ltb n 128 high) (omega (arith, twice k (m / 128) (n / 128) (omega arith)))
      ]
    ]
