-- Decimal numbers are read as they are written.
use Rattle.std.proofs.Common.{◌≡◌, ℕ, zero, suc, ◌+◌, ◌-◌, ◌^◌, ◌<◌, ◌≤◌, Bool, true, false, not, ◌&&◌, cond, List, [], ◌∷◌, length, get_or, map, Option, Some, None, refl, sym, ap, subst, ◌∙◌, arith, decimal, inl, inr, ℤ, pos, negsuc}
use Rattle.std.specs.Prelude.{nat_eq, nat_le, nat_lt}
use Rattle.std.specs.Int.{IsInRange}
use Rattle.std.specs.List.{list_all}
use Rattle.std.specs.Fmt.{digits, signed_decimal}
use Rattle.w_leb.specs.Number.{size_of}
use Rattle.std.specs.Int.Digits.{digits_of}
use Rattle.std.proofs.Math.Pow.{pow_mono}
use Rattle.std.proofs.lemmas.Bool.{lt-ltb, ltb-true, le-leb, leb-true}
use Rattle.std.proofs.lemmas.Bool.Decides.{eqb_tells, Decides-eqb}
use Rattle.std.proofs.lemmas.List.{get_or-map}
use Rattle.std.proofs.lemmas.Int.Digits.{first_digits_of}
use Rattle.std.proofs.lemmas.Str.Parse.{IsDigitsTest, IsNumeralModel, FoldsDigits, numerals_by_fold}
use Rattle.std.proofs.lemmas.Fmt.{decimal-digits_of, digits_decimal, digits_value-decimal, decimal-digits_value}
use Rattle.w_words.specs.Words.{◌>>=◌, IsClean}
use Rattle.w_words.specs.Numbers.{Index32, is_digit, value_behind, value, is_short, is_numeral, number_of, as_positive, as_negative, signed_of, SignedFits}
use Rattle.w_words.proofs.Readings.{IsSpelling, both, true_and, cond_some, then_some}

abbrev pub AreDigits : List ℕ → Type 0
AreDigits ds = list_all is_digit ds ≡ true

pub in_range : (d : ℕ) → is_digit d ≡ true → IsInRange 48 57 d
in_range d e = let b = both (nat_le 48 d) (nat_le d 57) e in (leb-true 48 d b.0, leb-true d 57 b.1)

pub out_range : (d : ℕ) → IsInRange 48 57 d → is_digit d ≡ true
out_range d h = true_and (nat_le 48 d) (nat_le d 57) (le-leb 48 d h.0) (le-leb d 57 h.1)

tells : IsDigitsTest AreDigits
tells = record {
  empty = refl;
  parts = λ c cs h. let b = both (is_digit c) (list_all is_digit cs) h in (in_range c b.0, b.1);
  more = λ c cs h k. true_and (is_digit c) (list_all is_digit cs) (out_range c h) k;
}

folds : FoldsDigits value_behind
unfolding value_behind
folds = record { empty = λ n. refl; more = λ n c cs h. refl }

pub own : IsNumeralModel AreDigits value
own = numerals_by_fold AreDigits tells value_behind folds

-- ## What is written

abbrev Small : ℕ → Type 0
Small n = n < 2 ^ 64

written_digits : (n : ℕ) → Small n → AreDigits (decimal n)
written_digits n h = digits_decimal own n h

written_value : (n : ℕ) → Small n → value (decimal n) ≡ n
written_value n h = digits_value-decimal own n h

zero_short : is_short (decimal 0) ≡ true
unfolding digits
zero_short = refl

value_of_none : value [] ≡ 0
unfolding value_behind
value_of_none = refl

-- a numeral of at least one digit that begins with no 0
first_short : (ds : List ℕ) → 0 < length ds → (get_or ds 0 0 ≡ 48 → ⊥) → is_short ds ≡ true
first_short [] h f = absurd (omega arith)
first_short (d ∷ []) h f = refl
first_short (d ∷ e ∷ ds) h f = elim (eqb_tells d 48) [ inl p ↦ absurd (f p.1) | inr p ↦ rw p.0 refl ]

some_digits : (ds : List ℕ) (n : ℕ) → value ds ≡ n → 0 < n → 0 < length ds
some_digits [] n e h = absurd (omega (arith, value_of_none))
some_digits (d ∷ ds) n e h = omega arith

first_is_not_zero : (n : ℕ) → 0 < n → Small n → get_or (decimal n) 0 0 ≡ 48 → ⊥
first_is_not_zero n h lt e =
    let ds = digits_of 10 n in
    let same : decimal n ≡ map (λ d. 48 + d) ds = decimal-digits_of n h lt in
    let f : 0 < get_or ds 0 0 = first_digits_of 10 n (omega arith) h in
    let len : 0 < length ds = long ds f in
    let g : get_or (map (λ d. 48 + d) ds) 0 0 ≡ 48 + get_or ds 0 0 = get_or-map (λ d. 48 + d) ds 0 0 0 len in
    let z : get_or (map (λ d. 48 + d) ds) 0 0 ≡ 48 = ap (λ (l : List ℕ). get_or l 0 0) (sym same) ∙ e in
    omega (arith, f, g, z)
  where
    long : (l : List ℕ) → 0 < get_or l 0 0 → 0 < length l
    long [] k = absurd (omega (arith, k))
    long (x ∷ l) k = omega arith

written_short : (n : ℕ) → Small n → is_short (decimal n) ≡ true
written_short zero h = zero_short
written_short (suc n) h = first_short (decimal (suc n)) (some_digits (decimal (suc n)) (suc n) (written_value (suc n) h) (omega arith)) (first_is_not_zero (suc n) (omega arith) h)

pub digits_clean : (ds : List ℕ) → AreDigits ds → IsClean ds
digits_clean [] h = tt
digits_clean (d ∷ ds) h = let b = both (is_digit d) (list_all is_digit ds) h in let r = in_range d b.0 in (omega (arith, r.0), digits_clean ds b.1)

-- ## Reading

first_zero : (ds : List ℕ) → is_short ds ≡ true → get_or ds 0 0 ≡ 48 → length ds ≡ 1
first_zero [] s e = absurd cc
first_zero (d ∷ []) s e = refl
first_zero (d ∷ f ∷ ds) s e = let z : nat_eq d 48 ≡ true = (Decides-eqb d 48).1 e in absurd (clash (nat_eq d 48) z s)
  where
    clash : (b : Bool) → b ≡ true → not b ≡ true → ⊥
    clash true z s = cc
    clash false z s = cc

nonempty : (ds : List ℕ) → is_short ds ≡ true → 0 < length ds
nonempty [] s = absurd cc
nonempty (d ∷ ds) s = omega arith

wide : (w : ℕ) → w ≤ 64 → 2 ^ w ≤ 2 ^ 64
wide w le = pow_mono {i = w} {j = 64} le

pub number_sound : (w : ℕ) → w ≤ 64 → (ds : List ℕ) (n : ℕ) → number_of w ds ≡ Some n → (n < 2 ^ w) × (decimal n ≡ ds)
unfolding number_of
number_sound w le ds n e =
    let a = cond_some (is_numeral ds && nat_lt (value ds) (2 ^ w)) (value ds) n e in
    let b = both (is_numeral ds) (nat_lt (value ds) (2 ^ w)) a.0 in
    let c = both (is_short ds) (list_all is_digit ds) b.0 in
    let lt : value ds < 2 ^ w = ltb-true (value ds) (2 ^ w) b.1 in
    let small : value ds < 2 ^ 64 = omega (arith, lt, wide w le) in
    let same : decimal (value ds) ≡ ds = decimal-digits_value own ds c.1 (nonempty ds c.0) (first_zero ds c.0) small in
    (omega (arith, lt, a.1), ap decimal (sym a.1) ∙ same)

pub number_below : (w : ℕ) (ds : List ℕ) (n : ℕ) → Some n ≡ number_of w ds → n < 2 ^ w
unfolding number_of
number_below w ds n e =
    let a = cond_some (is_numeral ds && nat_lt (value ds) (2 ^ w)) (value ds) n (sym e) in
    let lt : value ds < 2 ^ w = ltb-true (value ds) (2 ^ w) (both (is_numeral ds) (nat_lt (value ds) (2 ^ w)) a.0).1 in
    omega (arith, lt, a.1)

pub number_complete : (w : ℕ) → w ≤ 64 → (n : ℕ) → n < 2 ^ w → number_of w (decimal n) ≡ Some n
unfolding number_of
number_complete w le n h =
    let small : n < 2 ^ 64 = omega (arith, wide w le) in
    let v : value (decimal n) ≡ n = written_value n small in
    let t : (is_numeral (decimal n) && nat_lt n (2 ^ w)) ≡ true = true_and (is_numeral (decimal n)) (nat_lt n (2 ^ w)) (true_and (is_short (decimal n)) (list_all is_digit (decimal n)) (written_short n small) (written_digits n small)) (lt-ltb n (2 ^ w) h) in
    rw v (rw t refl)

-- each byte is at most that of 9
abbrev pub EachDigit : List ℕ → Type 0
EachDigit [] = Unit {0}
EachDigit (d ∷ ds) = (d ≤ 57) × EachDigit ds

to_digits : (ds : List ℕ) → AreDigits ds → EachDigit ds
to_digits [] h = tt
to_digits (d ∷ ds) h = let b = both (is_digit d) (list_all is_digit ds) h in ((in_range d b.0).1, to_digits ds b.1)

pub decimal_digits : (n : ℕ) → n < 2 ^ 64 → EachDigit (decimal n)
decimal_digits n h = to_digits (decimal n) (written_digits n h)

pub number_clean : (n : ℕ) → n < 2 ^ 64 → IsClean (decimal n)
number_clean n h = digits_clean (decimal n) (written_digits n h)

-- a number begins with a digit
pub decimal_begins : (n : ℕ) → n < 2 ^ 64 → (d : ℕ) × (ds : List ℕ) × (decimal n ≡ d ∷ ds) × (is_digit d ≡ true)
decimal_begins n h = begins (decimal n) refl (written_short n h) (written_digits n h)
  where
    begins : (ds : List ℕ) → decimal n ≡ ds → is_short ds ≡ true → AreDigits ds → (d : ℕ) × (es : List ℕ) × (decimal n ≡ d ∷ es) × (is_digit d ≡ true)
    begins [] e s a = absurd cc
    begins (d ∷ ds) e s a = (d, ds, e, (both (is_digit d) (list_all is_digit ds) a).0)

-- ## Signed numbers

abbrev SignedTold : ℕ → List ℕ → ℤ → Type 0
SignedTold w ds z = (size_of z < 2 ^ (w - 1)) × (signed_decimal z ≡ ds)

positive_sound : (w : ℕ) (ds : List ℕ) (n : ℕ) (z : ℤ) → decimal n ≡ ds → as_positive w n ≡ Some z → SignedTold w ds z
positive_sound w ds n z d e =
    let a = cond_some (nat_lt n (2 ^ (w - 1))) (pos n) z e in
    subst (SignedTold w ds) a.1 (ltb-true n (2 ^ (w - 1)) a.0, d)

negative_sound : (w : ℕ) (ds : List ℕ) (n : ℕ) (z : ℤ) → decimal n ≡ ds → as_negative w n ≡ Some z → SignedTold w (45 ∷ ds) z
negative_sound w ds zero z d e = absurd cc
negative_sound w ds (suc n) z d e =
    let a = cond_some (nat_lt n (2 ^ (w - 1))) (negsuc n) z e in
    subst (SignedTold w (45 ∷ ds)) a.1 (ltb-true n (2 ^ (w - 1)) a.0, ap (λ (l : List ℕ). 45 ∷ l) d)

signed_by : (b : Bool) (w d : ℕ) (ds : List ℕ) (z : ℤ) → nat_eq d 45 ≡ b → cond b (number_of 64 ds >>= as_negative w) (number_of 64 (d ∷ ds) >>= as_positive w) ≡ Some z → SignedTold w (d ∷ ds) z
signed_by true w d ds z t e =
    let a = then_some (number_of 64 ds) (as_negative w) z e in
    let n = number_sound 64 (omega arith) ds a.0 a.1 in
    let is : d ≡ 45 = (Decides-eqb d 45).0 t in
    subst (λ (k : ℕ). SignedTold w (k ∷ ds) z) (sym is) (negative_sound w ds a.0 z n.1 a.2)
signed_by false w d ds z t e =
    let a = then_some (number_of 64 (d ∷ ds)) (as_positive w) z e in
    let n = number_sound 64 (omega arith) (d ∷ ds) a.0 a.1 in
    positive_sound w (d ∷ ds) a.0 z n.1 a.2

pub signed_sound : (w : ℕ) (ds : List ℕ) (z : ℤ) → signed_of w ds ≡ Some z → (size_of z < 2 ^ (w - 1)) × (signed_decimal z ≡ ds)
unfolding signed_of
signed_sound w [] z e = absurd cc
signed_sound w (d ∷ ds) z e = signed_by (nat_eq d 45) w d ds z refl e

not_minus : (d : ℕ) → is_digit d ≡ true → nat_eq d 45 ≡ false
not_minus d h = elim (eqb_tells d 45) [ inl p ↦ let r = in_range d h in absurd (omega (arith, p.1, r.0)) | inr p ↦ p.0 ]

as_itself : (w : ℕ) (ds : List ℕ) (d : ℕ) (es : List ℕ) → ds ≡ d ∷ es → is_digit d ≡ true → signed_of w ds ≡ (number_of 64 ds >>= as_positive w)
unfolding signed_of
as_itself w [] d es e h = absurd cc
as_itself w (c ∷ cs) d es e h =
    let is : c ≡ d = cc in
    let n : nat_eq c 45 ≡ false = ap (λ (k : ℕ). nat_eq k 45) is ∙ not_minus d h in
    rw n refl

behind_minus : (w : ℕ) (ds : List ℕ) → signed_of w (45 ∷ ds) ≡ (number_of 64 ds >>= as_negative w)
unfolding signed_of
behind_minus w ds = refl

half_wide : (w : ℕ) → w ≤ 64 → 2 ^ (w - 1) ≤ 2 ^ 63
half_wide w le = pow_mono {i = w - 1} {j = 63} (omega arith)

pub signed_complete : (w : ℕ) → w ≤ 64 → (z : ℤ) → size_of z < 2 ^ (w - 1) → signed_of w (signed_decimal z) ≡ Some z
signed_complete w le (pos n) h =
    let small : n < 2 ^ 64 = omega (arith, half_wide w le) in
    let d = decimal_begins n small in
    as_itself w (decimal n) d.0 d.1 d.2 d.3 ∙ ap (λ (o : Option ℕ). o >>= as_positive w) (number_complete 64 (omega arith) n small) ∙ ap (λ (b : Bool). cond b (Some (pos n)) None) (lt-ltb n (2 ^ (w - 1)) h)
signed_complete w le (negsuc n) h =
    let small : suc n < 2 ^ 64 = omega (arith, half_wide w le) in
    behind_minus w (decimal (suc n)) ∙ ap (λ (o : Option ℕ). o >>= as_negative w) (number_complete 64 (omega arith) (suc n) small) ∙ ap (λ (b : Bool). cond b (Some (negsuc n)) None) (lt-ltb n (2 ^ (w - 1)) h)

pub signed_clean : (w : ℕ) → w ≤ 64 → (z : ℤ) → size_of z < 2 ^ (w - 1) → IsClean (signed_decimal z)
signed_clean w le (pos n) h = number_clean n (omega (arith, half_wide w le))
signed_clean w le (negsuc n) h = (minus_clean, number_clean (suc n) (omega (arith, half_wide w le)))
  where
    minus_clean : 32 < 45
    minus_clean = omega arith

-- ## As spellings

pub numbers : (w : ℕ) → w ≤ 64 → IsSpelling decimal (number_of w) (λ n. n < 2 ^ w)
numbers w le = record {
  sound = number_sound w le;
  complete = number_complete w le;
  clean = λ n h. number_clean n (omega (arith, wide w le));
}

pub indices : IsSpelling decimal (number_of 32) Index32
indices = numbers 32 (omega arith)

pub signed_numbers : (w : ℕ) → w ≤ 64 → IsSpelling signed_decimal (signed_of w) (SignedFits w)
signed_numbers w le = record { sound = signed_sound w; complete = signed_complete w le; clean = signed_clean w le }
