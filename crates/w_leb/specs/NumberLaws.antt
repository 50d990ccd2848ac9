-- A number is read exactly, and its value is within its bits.
use Rattle.std.proofs.Common.{◌≡◌, ℕ, ◌+◌, ◌-◌, ◌*◌, ◌^◌, ◌<◌, ◌≤◌, ◌⊎◌, inl, inr, Bool, true, false, cond, List, [], ◌∷◌, ◌++◌, Option, Some, None, refl, sym, ap, subst, ◌∙◌, arith, ℤ, pos, ◌+ℤ◌, ◌-ℤ◌, ◌*ℤ◌}
use Rattle.std.specs.Prelude.{nat_lt, nat_le, ◌&&◌}
use Rattle.std.proofs.lemmas.Bool.{ltb-true, cases_lt, lt-ltb, le-ltb, le-leb, lt-leb}
use Rattle.std.proofs.lemmas.Option.{some_pair_parts}
use Rattle.w_leb.specs.Format.{IsExact, then}
use Rattle.w_leb.specs.Number.{Unsigned, unsigned, Signed, signed, signed_last, paired, goes_on}
use Rattle.w_leb.specs.FormatLaws.{then_some, some_parts}

-- ---- what one step reads
abbrev one : ℕ → ℕ → List ℕ → Option (ℕ × List ℕ)
one w b bs = cond (nat_lt b (2 ^ w)) (Some (b, bs)) None

tells : (b v : Bool) → b ≡ v → (b ≡ true) ⊎ (b ≡ false)
tells true v e = inl refl
tells false v e = inr refl

split_and : (a b : Bool) → (a && b) ≡ true → (a ≡ true) × (b ≡ true)
split_and true b e = (refl, e)
split_and false b e = absurd cc

both : (w b : ℕ) → goes_on w b ≡ true → (7 < w) × (b < 256)
both w b e = let p = split_and (nat_lt 7 w) (nat_lt b 256) e in (ltb-true 7 w p.0, ltb-true b 256 p.1)

-- one byte, bytes behind it, and what is left
after_byte : (b : ℕ) (bs front left rest : List ℕ) → bs ≡ front ++ left → left ≡ rest → b ∷ bs ≡ (b ∷ front) ++ rest
after_byte b bs front left rest e f = ap (λ (r : List ℕ). b ∷ r) (e ∙ ap (λ (r : List ℕ). front ++ r) f)

pub unsigned_more : (w b : ℕ) (bs : List ℕ) (high : ℕ) → 128 ≤ b → b < 256 → 7 < w → Unsigned (w - 7) bs high → Unsigned w (b ∷ bs) (b - 128 + 128 * high)
unfolding Unsigned
unsigned_more w b [] high lo byte wide h = absurd h
unsigned_more w b (c ∷ bs) high lo byte wide h = (lo, byte, wide, high, h, refl)

pub unsigned_sound : (w : ℕ) (bytes : List ℕ) (n : ℕ) (rest : List ℕ) → unsigned w bytes ≡ Some (n, rest) → (b : List ℕ) × (bytes ≡ b ++ rest) × Unsigned w b n
unfolding Unsigned unsigned
unsigned_sound w [] n rest e = absurd cc
unsigned_sound w (b ∷ bs) n rest e =
    elim (cases_lt b 128) [
      | inl lt ↦
          let e2 : one w b bs ≡ Some (n, rest) = rw (lt-ltb b 128 lt) at e in
          elim (cases_lt b (2 ^ w)) [
            | inl fits ↦
                let e3 : ◌≡◌ {A = Option (ℕ × List ℕ)} (Some (b, bs)) (Some (n, rest)) = rw (lt-ltb b (2 ^ w) fits) at e2 in
                let d = some_parts b n bs rest e3 in
                (b ∷ [], ap (λ (r : List ℕ). b ∷ r) d.1, (lt, fits, sym d.0))
            | inr big ↦
                let e3 : ◌≡◌ {A = Option (ℕ × List ℕ)} None (Some (n, rest)) = rw (le-ltb b (2 ^ w) big) at e2 in absurd cc
          ]
      | inr lo ↦
          let e2 : cond (goes_on w b) (then (unsigned (w - 7) bs) (λ high rest. Some (b - 128 + 128 * high, rest))) None ≡ Some (n, rest) = rw (le-ltb b 128 lo) at e in
          elim (tells (goes_on w b) (goes_on w b) refl) [
            | inl more ↦
                let e3 : then (unsigned (w - 7) bs) (λ high rest. Some (b - 128 + 128 * high, rest)) ≡ Some (n, rest) = rw more at e2 in
                let a = then_some (unsigned (w - 7) bs) (λ high rest. Some (b - 128 + 128 * high, rest)) n rest e3 in
                let c = unsigned_sound (w - 7) bs a.0 a.1 a.2 in
                let d = some_parts (b - 128 + 128 * a.0) n a.1 rest a.3 in
                (b ∷ c.0, after_byte b bs c.0 a.1 rest c.1 d.1, subst (Unsigned w (b ∷ c.0)) d.0 (unsigned_more w b c.0 a.0 lo (both w b more).1 (both w b more).0 c.2))
            | inr ends ↦
                let e3 : ◌≡◌ {A = Option (ℕ × List ℕ)} None (Some (n, rest)) = rw ends at e2 in absurd cc
          ]
    ]

pub unsigned_complete : (w : ℕ) (b : List ℕ) (n : ℕ) (rest : List ℕ) → Unsigned w b n → unsigned w (b ++ rest) ≡ Some (n, rest)
unfolding Unsigned unsigned
unsigned_complete w [] n rest h = absurd h
unsigned_complete w (b ∷ []) n rest h = rw (lt-ltb b 128 h.0, lt-ltb b (2 ^ w) h.1, h.2) refl
unsigned_complete w (b ∷ c ∷ bs) n rest h =
    let again = unsigned_complete (w - 7) (c ∷ bs) h.3 rest h.4 in
    rw (le-ltb b 128 h.0, lt-ltb 7 w h.2, lt-ltb b 256 h.1, again, h.5) refl

pub unsigned_exact : (w : ℕ) → IsExact (Unsigned w) (unsigned w)
unsigned_exact w = record { sound = unsigned_sound w; complete = unsigned_complete w }

-- ---- signed

pub signed_more : (w b : ℕ) (bs : List ℕ) (high : ℤ) → 128 ≤ b → b < 256 → 7 < w → Signed (w - 7) bs high → Signed w (b ∷ bs) (pos (b - 128) +ℤ pos 128 *ℤ high)
unfolding Signed
signed_more w b [] high lo byte wide h = absurd h
signed_more w b (c ∷ bs) high lo byte wide h = (lo, byte, wide, high, h, refl)

signed_last_sound : (w b : ℕ) (z : ℤ) → b < 128 → signed_last w b ≡ Some z → Signed w (b ∷ []) z
unfolding Signed
signed_last_sound w b z lt e =
    elim (cases_lt b 64) [
      | inl low ↦
          let e2 : cond (nat_lt b (2 ^ (w - 1))) (Some (pos b)) None ≡ Some z = rw (lt-ltb b 64 low) at e in
          elim (cases_lt b (2 ^ (w - 1))) [
            | inl fits ↦ let e3 : Some (pos b) ≡ Some z = rw (lt-ltb b (2 ^ (w - 1)) fits) at e2 in inl (low, fits, cc)
            | inr big ↦ let e3 : ◌≡◌ {A = Option ℤ} None (Some z) = rw (le-ltb b (2 ^ (w - 1)) big) at e2 in absurd cc
          ]
      | inr up ↦
          let e2 : cond (nat_le 128 (b + 2 ^ (w - 1))) (Some (pos 0 -ℤ pos (128 - b))) None ≡ Some z = rw (le-ltb b 64 up) at e in
          elim (cases_lt (b + 2 ^ (w - 1)) 128) [
            | inl big ↦ let e3 : ◌≡◌ {A = Option ℤ} None (Some z) = rw (lt-leb 128 (b + 2 ^ (w - 1)) big) at e2 in absurd cc
            | inr fits ↦ let e3 : Some (pos 0 -ℤ pos (128 - b)) ≡ Some z = rw (le-leb 128 (b + 2 ^ (w - 1)) fits) at e2 in inr (up, lt, fits, cc)
          ]
    ]

paired_some : {A B : Type 0} (y : B) (o : Option A) (x : A) (z : B) → ◌≡◌ {A = Option (A × B)} (paired y o) (Some (x, z)) → (o ≡ Some x) × (y ≡ z)
paired_some y None x z e = absurd cc
paired_some y (Some v) x z e = let d = some_pair_parts v x y z e in (ap (λ (u : _). Some u) d.0, d.1)

pub signed_sound : (w : ℕ) (bytes : List ℕ) (n : ℤ) (rest : List ℕ) → signed w bytes ≡ Some (n, rest) → (b : List ℕ) × (bytes ≡ b ++ rest) × Signed w b n
unfolding signed
signed_sound w [] n rest e = absurd cc
signed_sound w (b ∷ bs) n rest e =
    elim (cases_lt b 128) [
      | inl lt ↦
          let e2 : paired bs (signed_last w b) ≡ Some (n, rest) = rw (lt-ltb b 128 lt) at e in
          let d = paired_some bs (signed_last w b) n rest e2 in
          (b ∷ [], ap (λ (r : List ℕ). b ∷ r) d.1, signed_last_sound w b n lt d.0)
      | inr lo ↦
          let e2 : cond (goes_on w b) (then (signed (w - 7) bs) (λ high rest. Some (pos (b - 128) +ℤ pos 128 *ℤ high, rest))) None ≡ Some (n, rest) = rw (le-ltb b 128 lo) at e in
          elim (tells (goes_on w b) (goes_on w b) refl) [
            | inl more ↦
                let e3 : then (signed (w - 7) bs) (λ high rest. Some (pos (b - 128) +ℤ pos 128 *ℤ high, rest)) ≡ Some (n, rest) = rw more at e2 in
                let a = then_some (signed (w - 7) bs) (λ high rest. Some (pos (b - 128) +ℤ pos 128 *ℤ high, rest)) n rest e3 in
                let c = signed_sound (w - 7) bs a.0 a.1 a.2 in
                let d = some_parts (pos (b - 128) +ℤ pos 128 *ℤ a.0) n a.1 rest a.3 in
                (b ∷ c.0, after_byte b bs c.0 a.1 rest c.1 d.1, subst (Signed w (b ∷ c.0)) d.0 (signed_more w b c.0 a.0 lo (both w b more).1 (both w b more).0 c.2))
            | inr ends ↦
                let e3 : ◌≡◌ {A = Option (ℤ × List ℕ)} None (Some (n, rest)) = rw ends at e2 in absurd cc
          ]
    ]

signed_last_complete : (w b : ℕ) (z : ℤ) → Signed w (b ∷ []) z → (b < 128) × (signed_last w b ≡ Some z)
unfolding Signed
signed_last_complete w b z (inl h) = (omega (arith, h.0), rw (lt-ltb b 64 h.0, lt-ltb b (2 ^ (w - 1)) h.1, h.2) refl)
signed_last_complete w b z (inr h) = (h.1, rw (le-ltb b 64 h.0, le-leb 128 (b + 2 ^ (w - 1)) h.2, h.3) refl)

pub signed_complete : (w : ℕ) (b : List ℕ) (z : ℤ) (rest : List ℕ) → Signed w b z → signed w (b ++ rest) ≡ Some (z, rest)
unfolding Signed signed
signed_complete w [] z rest h = absurd h
signed_complete w (b ∷ []) z rest h =
    let d = signed_last_complete w b z h in
    rw (lt-ltb b 128 d.0, d.1) refl
signed_complete w (b ∷ c ∷ bs) z rest h =
    let again = signed_complete (w - 7) (c ∷ bs) h.3 rest h.4 in
    rw (le-ltb b 128 h.0, lt-ltb 7 w h.2, lt-ltb b 256 h.1, again, h.5) refl

pub signed_exact : (w : ℕ) → IsExact (Signed w) (signed w)
signed_exact w = record { sound = signed_sound w; complete = signed_complete w }

-- each spelling has a byte
pub unsigned_solid : (w n : ℕ) → Unsigned w [] n → ⊥
unfolding Unsigned
unsigned_solid w n h = h

pub signed_solid : (w : ℕ) (z : ℤ) → Signed w [] z → ⊥
unfolding Signed
signed_solid w z h = h
