-- Bytes in hexadecimal are read as they are written.
use Rattle.std.proofs.Common.{◌≡◌, ℕ, ◌<◌, Bool, true, false, cond, List, [], ◌∷◌, Some, None, Result, Ok, Err, refl, sym, ap, subst, ◌∙◌, arith}
use Rattle.std.specs.Prelude.{nat_eq, IsTrue}
use Rattle.std.specs.List.{AllPass}
use Rattle.std.specs.Str.{IsUtf8, is_utf8, bytes_eq}
use Rattle.std.proofs.lemmas.Bool.Decides.{Decides-eqb, nat_tests}
use Rattle.std.proofs.lemmas.List.Elements.{All-head, All-tail}
use Rattle.std.proofs.lemmas.Str.{IsUtf8-from_is_utf8, is_utf8-from_IsUtf8}
use Rattle.std.proofs.lemmas.Slice.Eq.{bytes_eq-Decides}
use Rattle.hex.specs.Hex.{IsBytes, encode_lower, decode_of, is_hex_digit}
use Rattle.hex.specs.declared.error.FromHexError.{FromHexError}
use Rattle.hex.proofs.HexLemmas.{decode_of-encode_lower, decode_of-ok}
use Rattle.w_words.specs.Words.{Word, IsClean}
use Rattle.w_words.specs.Hexadecimal.{bytes_word, in_lower_case, bytes_of, as_name, name_of, NameFits}
use Rattle.w_words.proofs.Readings.{IsSpelling, cond_some, then_some}

abbrev BytesTold : Word → List ℕ → Type 0
BytesTold w bs = IsBytes bs × (bytes_word bs ≡ w)

lower_sound : (ds : Word) (r : Result (List ℕ) FromHexError) (bs : List ℕ) → decode_of ds ≡ r → in_lower_case ds r ≡ Some bs → BytesTold (120 ∷ ds) bs
lower_sound ds (Ok cs) bs e h =
    let a = cond_some (bytes_eq ds (encode_lower cs)) cs bs h in
    let is : ds ≡ encode_lower cs = (bytes_eq-Decides ds (encode_lower cs)).0 a.0 in
    subst (BytesTold (120 ∷ ds)) a.1 ((decode_of-ok ds cs e).3, ap (λ (w : Word). 120 ∷ w) (sym is))
lower_sound ds (Err f) bs e h = absurd cc

bytes_by : (v : Bool) (x : ℕ) (ds : Word) (bs : List ℕ) → nat_eq x 120 ≡ v → cond v (in_lower_case ds (decode_of ds)) None ≡ Some bs → BytesTold (x ∷ ds) bs
bytes_by true x ds bs t e =
    let is : x ≡ 120 = (Decides-eqb x 120).0 t in
    subst (λ (k : ℕ). BytesTold (k ∷ ds) bs) (sym is) (lower_sound ds (decode_of ds) bs refl e)
bytes_by false x ds bs t e = absurd cc

bytes_sound : (w : Word) (bs : List ℕ) → bytes_of w ≡ Some bs → BytesTold w bs
bytes_sound [] bs e = absurd cc
bytes_sound (x ∷ ds) bs e = bytes_by (nat_eq x 120) x ds bs refl e

bytes_complete : (bs : List ℕ) → IsBytes bs → bytes_of (bytes_word bs) ≡ Some bs
bytes_complete bs f = ap (in_lower_case (encode_lower bs)) (decode_of-encode_lower bs f) ∙ ap (λ (b : Bool). cond b (Some bs) None) ((bytes_eq-Decides (encode_lower bs) (encode_lower bs)).1 refl)

digit_clean : (b : ℕ) → is_hex_digit b ≡ true → 32 < b
digit_clean b h = grind (arith, nat_tests)

digits_clean : (ds : List ℕ) → AllPass is_hex_digit ds → IsClean ds
digits_clean [] f = tt
digits_clean (d ∷ ds) f = (digit_clean d (All-head (λ x. is_hex_digit x ≡ true) d ds f), digits_clean ds (All-tail (λ x. is_hex_digit x ≡ true) d ds f))

bytes_clean : (bs : List ℕ) → IsBytes bs → IsClean (bytes_word bs)
bytes_clean bs f = (x_clean, digits_clean (encode_lower bs) (decode_of-ok (encode_lower bs) bs (decode_of-encode_lower bs f)).1)
  where
    x_clean : 32 < 120
    x_clean = omega arith

pub byte_lists : IsSpelling bytes_word bytes_of IsBytes
byte_lists = record { sound = bytes_sound; complete = bytes_complete; clean = bytes_clean }

-- ## Names

test_some : {A : Type 0} (b : Bool) (x y : A) → cond b (Some x) None ≡ Some y → IsTrue b × (x ≡ y)
test_some true x y e = (refl, cc)
test_some false x y e = absurd cc

name_sound : (w : Word) (bs : List ℕ) → name_of w ≡ Some bs → NameFits bs × (bytes_word bs ≡ w)
name_sound w bs e =
    let a = then_some (bytes_of w) as_name bs e in
    let t = test_some (is_utf8 a.0) a.0 bs a.2 in
    let h = bytes_sound w a.0 a.1 in
    subst (λ (cs : List ℕ). NameFits cs × (bytes_word cs ≡ w)) t.1 ((h.0, t.0), h.1)

name_complete : (bs : List ℕ) → NameFits bs → name_of (bytes_word bs) ≡ Some bs
name_complete bs f = rw (bytes_complete bs f.0) (rw (f.1) refl)

pub names : IsSpelling bytes_word name_of NameFits
names = record { sound = name_sound; complete = name_complete; clean = λ bs f. bytes_clean bs f.0 }

-- bytes that are UTF-8 are a name
pub is_name : (bs cs : List ℕ) → IsUtf8 bs → cs ≡ bs → Some cs ≡ as_name bs
is_name bs cs h e = ap (λ (l : List ℕ). Some l) e ∙ sym (ap (λ (b : Bool). cond b (Some bs) None) (is_utf8-from_IsUtf8 bs h))

-- others are none
pub is_no_name : (bs : List ℕ) → (IsUtf8 bs → ⊥) → None ≡ as_name bs
is_no_name bs h = cases (is_utf8 bs) refl
  where
    cases : (b : Bool) → is_utf8 bs ≡ b → None ≡ cond b (Some bs) None
    cases true e = absurd (h (IsUtf8-from_is_utf8 bs e))
    cases false e = refl
