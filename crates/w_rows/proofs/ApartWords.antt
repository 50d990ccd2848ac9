-- What a number tells that is gathered from two words.
use Rattle.std.proofs.Common.{◌≡◌, ◌⊎◌, inl, inr, ℕ, ◌-◌, ◌%◌, ◌≤◌, nat_lt, nat_le, nat_eq, Bool, true, false, not, bit_and, bit_or, refl, eqb-true, ltb-false, leb-false, arith}
use Rattle.w_rows.specs.Words.{bit_of, class_in, class_wanted_in, TellBelow}
use Rattle.w_rows.proofs.SameRows.{none_gathered}

-- of two bits neither is set, or that which counts them is not
neither : (p q d : Bool) → bit_and (bit_or (bit_of p) (bit_of q)) (bit_of d) ≡ 0 → (d ≡ false) ⊎ ((p ≡ false) × (q ≡ false))
neither p q false e = inl refl
neither true true true e = absurd (omega arith)
neither true false true e = absurd (omega arith)
neither false true true e = absurd (omega arith)
neither false false true e = inr (refl, refl)

-- it is zero only where the words tell that the one type is below the other
pub apart_tells : (g w l : ℕ) {off before behind differ : ℕ} → before ≡ bit_of (nat_lt (class_in g) (class_wanted_in w)) → behind ≡ bit_of (nat_le l off)
    → differ ≡ bit_of (not (nat_eq (bit_and g w) 0)) → (class_wanted_in w ≤ class_in g → off ≡ class_in g - class_wanted_in w)
    → bit_or (bit_and g w % 16) (bit_and (bit_or before behind) differ) ≡ 0 → TellBelow g w l
apart_tells g w l {off} {before} {behind} {differ} a b c is e =
    let n = none_gathered (bit_and g w % 16) (bit_and (bit_or before behind) differ) e in
    let P = nat_lt (class_in g) (class_wanted_in w) in
    let Q = nat_le l off in
    let D = not (nat_eq (bit_and g w) 0) in
    let f : bit_and (bit_or (bit_of P) (bit_of Q)) (bit_of D) ≡ 0 = let h = n.1 in cc in
    elim (neither P Q D f) [
      | inl none ↦ inl (apart (nat_eq (bit_and g w) 0) refl none)
      | inr both ↦
          let le = ltb-false (class_in g) (class_wanted_in w) both.0 in
          let lt = leb-false l off both.1 in
          let there = is le in
          inr (n.0, le, omega arith)
    ]
  where
    apart : (z : Bool) → nat_eq (bit_and g w) 0 ≡ z → not z ≡ false → bit_and g w ≡ 0
    apart true h k = eqb-true (bit_and g w) 0 h
    apart false h k = absurd (cc)
