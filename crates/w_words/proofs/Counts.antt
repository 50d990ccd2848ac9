-- Counts of any size are read as they are written.
use Rattle.std.proofs.Common.{◌≡◌, ℕ, zero, suc, ◌+◌, ◌-◌, ◌*◌, ◌/◌, ◌%◌, ◌<◌, ◌≤◌, Bool, true, false, not, cond, List, [], ◌∷◌, ◌++◌, get_or, map, Some, None, refl, sym, ap, ◌∙◌, append_assoc, arith, inl, inr, decimal, ◌^◌}
use Rattle.std.specs.Fmt.{digits}
use Rattle.std.proofs.lemmas.Fmt.{decimal-digits_of}
use Rattle.std.specs.Prelude.{nat_eq, ⊤}
use Rattle.std.specs.List.{list_all}
use Rattle.std.specs.Int.Digits.{digits_of, number_from_digits_after, AllBelowBase}
use Rattle.std.proofs.lemmas.Bool.Decides.{eqb_tells, Decides-eqb, nat_tests}
use Rattle.std.proofs.lemmas.List.{map-append, append-nil}
use Rattle.std.proofs.lemmas.Int.Digits.{digits_of_step, number_digits_of, first_digits_of, all_below_base_digits_of}
use Rattle.w_words.specs.Words.{IsClean}
use Rattle.w_words.specs.Numbers.{is_digit, value_behind, value, is_short, is_numeral, glyph, count_word, count_of}
use Rattle.w_words.proofs.Readings.{IsSpelling, both, true_and, cond_some}
use Rattle.w_words.proofs.Numerals.{in_range, out_range, AreDigits, digits_clean}

-- ## What is read was written so

-- digits behind a number above 0
behind : (v : ℕ) (ds : List ℕ) → 0 < v → AreDigits ds → map glyph (digits_of 10 (value_behind v ds)) ≡ map glyph (digits_of 10 v) ++ ds
unfolding value_behind
behind v [] h a = sym (append-nil (map glyph (digits_of 10 v)))
behind v (d ∷ ds) h a =
    let b = both (is_digit d) (list_all is_digit ds) a in
    let r = in_range d b.0 in
    let n : ℕ = v * 10 + (d - 48) in
    let q : (v * 10 + (d - 48)) / 10 ≡ v = omega (arith, r.0, r.1) in
    let m : (v * 10 + (d - 48)) % 10 ≡ d - 48 = omega (arith, r.0, r.1) in
    let g : 48 + (d - 48) ≡ d = omega (arith, r.0) in
    let step : digits_of 10 (v * 10 + (d - 48)) ≡ digits_of 10 v ++ (d - 48) ∷ [] =
    digits_of_step 10 (v * 10 + (d - 48)) (omega arith) (omega arith) ∙ ap (λ (k : ℕ). digits_of 10 k ++ ((v * 10 + (d - 48)) % 10) ∷ []) q ∙ ap (λ (k : ℕ). digits_of 10 v ++ k ∷ []) m in
    behind (v * 10 + (d - 48)) ds (omega arith) b.1
    ∙ ap (λ (l : List ℕ). map glyph l ++ ds) step
    ∙ ap (λ (l : List ℕ). l ++ ds) (map-append glyph (digits_of 10 v) ((d - 48) ∷ []))
    ∙ ap (λ (k : ℕ). (map glyph (digits_of 10 v) ++ k ∷ []) ++ ds) g
    ∙ append_assoc (map glyph (digits_of 10 v)) (d ∷ []) ds

value_grows : (ds : List ℕ) (v : ℕ) → v ≤ value_behind v ds
unfolding value_behind
value_grows [] v = omega arith
value_grows (d ∷ ds) v = omega (arith, value_grows ds (v * 10 + (d - 48)))

value_first : (d : ℕ) (ds : List ℕ) → value (d ∷ ds) ≡ value_behind (d - 48) ds
unfolding value_behind
value_first d ds = let s : 0 * 10 + (d - 48) ≡ d - 48 = omega arith in ap (λ (k : ℕ). value_behind k ds) s

one_digit : (k : ℕ) → 0 < k → k < 10 → digits_of 10 k ≡ k ∷ []
one_digit k h lt =
    let q : k / 10 ≡ 0 = omega arith in
    let m : k % 10 ≡ k = omega arith in
    digits_of_step 10 k (omega arith) h ∙ ap (λ (j : ℕ). digits_of 10 j ++ (k % 10) ∷ []) q ∙ ap (λ (j : ℕ). j ∷ []) m

to_word : (n : ℕ) → 0 < n → count_word n ≡ map glyph (digits_of 10 n)
unfolding count_word
to_word n h = elim (eqb_tells n 0) [ inl p ↦ absurd (omega (arith, p.1)) | inr p ↦ ap (λ (b : Bool). cond b (48 ∷ []) (map glyph (digits_of 10 n))) p.0 ]

-- digits of which the first is not 0
from_first : (d : ℕ) (ds : List ℕ) → AreDigits (d ∷ ds) → 48 < d → count_word (value (d ∷ ds)) ≡ d ∷ ds
from_first d ds a lt =
    let b = both (is_digit d) (list_all is_digit ds) a in
    let r = in_range d b.0 in
    let k : 0 < d - 48 = omega (arith, lt) in
    let g : 48 + (d - 48) ≡ d = omega (arith, r.0) in
    ap count_word (value_first d ds)
    ∙ to_word (value_behind (d - 48) ds) (omega (arith, value_grows ds (d - 48), k))
    ∙ behind (d - 48) ds k b.1
    ∙ ap (λ (l : List ℕ). map glyph l ++ ds) (one_digit (d - 48) k (omega (arith, r.1)))
    ∙ ap (λ (j : ℕ). j ∷ ds) g

value_one : (d : ℕ) → value (d ∷ []) ≡ d - 48
unfolding value_behind
value_one d = omega arith

zero_word : count_word 0 ≡ 48 ∷ []
unfolding count_word
zero_word = refl

not_zero : (d e : ℕ) (ds : List ℕ) → is_short (d ∷ e ∷ ds) ≡ true → d ≡ 48 → ⊥
not_zero d e ds s is = clash (nat_eq d 48) ((Decides-eqb d 48).1 is) s
  where
    clash : (b : Bool) → b ≡ true → not b ≡ true → ⊥
    clash true z s = cc
    clash false z s = cc

numeral_word : (ds : List ℕ) → is_short ds ≡ true → AreDigits ds → count_word (value ds) ≡ ds
numeral_word [] s a = absurd cc
numeral_word (d ∷ []) s a =
    let r = in_range d (both (is_digit d) (list_all is_digit []) a).0 in
    elim (eqb_tells d 48) [
      | inl p ↦ let z : d - 48 ≡ 0 = omega (arith, p.1) in ap count_word (value_one d ∙ z) ∙ zero_word ∙ ap (λ (k : ℕ). k ∷ []) (sym p.1)
      | inr p ↦ from_first d [] a (above d r.0 p.0)
    ]
  where
    above : (k : ℕ) → 48 ≤ k → nat_eq k 48 ≡ false → 48 < k
    above k le e = grind (arith, nat_tests)
numeral_word (d ∷ e ∷ ds) s a =
    let r = in_range d (both (is_digit d) (list_all is_digit (e ∷ ds)) a).0 in
    from_first d (e ∷ ds) a (apart d r.0 (not_zero d e ds s))
  where
    apart : (k : ℕ) → 48 ≤ k → (k ≡ 48 → ⊥) → 48 < k
    apart k le n = omega (arith, n)

pub count_sound : (ds : List ℕ) (n : ℕ) → count_of ds ≡ Some n → count_word n ≡ ds
unfolding count_of
count_sound ds n e =
    let a = cond_some (is_numeral ds) (value ds) n e in
    let b = both (is_short ds) (list_all is_digit ds) a.0 in
    ap count_word (sym a.1) ∙ numeral_word ds b.0 b.1

-- ## What is written is read

glyphs_digits : (ds : List ℕ) → AllBelowBase 10 ds → AreDigits (map glyph ds)
glyphs_digits [] h = refl
glyphs_digits (d ∷ ds) h = true_and (is_digit (glyph d)) (list_all is_digit (map glyph ds)) (out_range (glyph d) (omega arith, omega (arith, h.0))) (glyphs_digits ds h.1)

glyphs_value : (ds : List ℕ) (v : ℕ) → value_behind v (map glyph ds) ≡ number_from_digits_after 10 v ds
unfolding value_behind
glyphs_value [] v = refl
glyphs_value (d ∷ ds) v = let s : 48 + d - 48 ≡ d = omega arith in ap (λ (k : ℕ). value_behind (v * 10 + k) (map glyph ds)) s ∙ glyphs_value ds (v * 10 + d)

glyphs_short : (ds : List ℕ) → 0 < get_or ds 0 0 → is_short (map glyph ds) ≡ true
glyphs_short [] h = absurd (omega (arith, h))
glyphs_short (d ∷ []) h = refl
glyphs_short (d ∷ e ∷ ds) h = elim (eqb_tells (48 + d) 48) [ inl p ↦ absurd (omega (arith, p.1, h)) | inr p ↦ rw p.0 refl ]

zero_value : value (48 ∷ []) ≡ 0
unfolding value_behind
zero_value = refl

word_is_numeral : (n : ℕ) → is_numeral (count_word n) ≡ true
word_is_numeral zero = ap is_numeral zero_word
word_is_numeral (suc n) =
    let ds = digits_of 10 (suc n) in
    ap is_numeral (to_word (suc n) (omega arith))
    ∙ true_and (is_short (map glyph ds)) (list_all is_digit (map glyph ds)) (glyphs_short ds (first_digits_of 10 (suc n) (omega arith) (omega arith))) (glyphs_digits ds (all_below_base_digits_of 10 (suc n) (omega arith)))

word_value : (n : ℕ) → value (count_word n) ≡ n
word_value zero = ap value zero_word ∙ zero_value
word_value (suc n) = ap value (to_word (suc n) (omega arith)) ∙ glyphs_value (digits_of 10 (suc n)) 0 ∙ number_digits_of 10 (suc n) (omega arith)

pub count_complete : (n : ℕ) → count_of (count_word n) ≡ Some n
unfolding count_of
count_complete n = ap (λ (b : Bool). cond b (Some (value (count_word n))) None) (word_is_numeral n) ∙ ap (λ (k : ℕ). Some k) (word_value n)

pub count_clean : (n : ℕ) → IsClean (count_word n)
count_clean n = digits_clean (count_word n) (both (is_short (count_word n)) (list_all is_digit (count_word n)) (word_is_numeral n)).1

pub counts : IsSpelling count_word count_of (λ n. ⊤)
counts = record { sound = λ w n e. (tt, count_sound w n e); complete = λ n f. count_complete n; clean = λ n f. count_clean n }

zero_decimal : decimal 0 ≡ 48 ∷ []
unfolding digits
zero_decimal = refl

-- a count of 64 bits is written as a number is
pub small_count : (n : ℕ) → n < 2 ^ 64 → count_word n ≡ decimal n
small_count zero h = zero_word ∙ sym zero_decimal
small_count (suc n) h = to_word (suc n) (omega arith) ∙ sym (decimal-digits_of (suc n) (omega arith) h)
