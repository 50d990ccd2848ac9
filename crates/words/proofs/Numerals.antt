-- Where a text spells a number in a range, that number is read, and else none; and what parsing says of it.
use Rattle.std.proofs.Common.{◌≡◌, ◌≤◌, ◌<◌, ◌^◌, ◌&&◌, ℕ, Bool, true, false, Some, None, Result, Ok, Err, refl, sym, ◌∙◌, ap, arith, decimal}
use Rattle.std.specs.Prelude.{if◌then◌else◌, nat_le}
use Rattle.std.specs.Cmp.Lexicographic.{same_text}
use Rattle.std.specs.Str.{bytes_eq}
use Rattle.std.specs.Str.Parse.{digits_value, ParsesUnsigned}
use Rattle.std.proofs.lemmas.Fmt.{decimal_is_IsNumeral, parse-decimal}
use Rattle.std.proofs.lemmas.Slice.Eq.{bytes_eq-Decides}
use Rattle.std.proofs.lemmas.Bool.Decides.{nat_tests}
use Rattle.clap.specs.Walk.{Text}
use Rattle.words.specs.Line.{number_in}

test_is : (t : Bool) (v n : ℕ) → t ≡ true → v ≡ n → (if t then Some v else None) ≡ Some n
test_is t v n p q = rw (p, q) refl

none_unless : (t : Bool) (v : ℕ) → (t ≡ true → ⊥) → (if t then Some v else None) ≡ None
none_unless true v h = absurd (h refl)
none_unless false v h = refl

is_same : (xs ys : Text) → xs ≡ ys → bytes_eq xs ys ≡ true
is_same xs ys e = (bytes_eq-Decides xs ys).1 e

le_is : (a b : ℕ) → a ≤ b → nat_le a b ≡ true
le_is a b h = grind (arith, nat_tests)

le_from : (a b : ℕ) → nat_le a b ≡ true → a ≤ b
le_from a b h = grind (arith, nat_tests)

both : (s t : Bool) → s ≡ true → t ≡ true → (s && t) ≡ true
both s t p q = rw (p, q) refl

first : (s t : Bool) → (s && t) ≡ true → s ≡ true
first true t h = refl
first false t h = h

second : (s t : Bool) → (s && t) ≡ true → t ≡ true
second true t h = h
second false t h = cc

pub number-some : (least most : ℕ) (text : Text) (n : ℕ) → text ≡ decimal n → n < 2 ^ 64 → least ≤ n → n ≤ most → number_in least most text ≡ Some n
number-some least most text n e fits low high =
    let v_is : digits_value 10 text ≡ n = ap (digits_value 10) e ∙ (decimal_is_IsNumeral n fits).1 in
    let same : text ≡ decimal (digits_value 10 text) = e ∙ ap decimal (sym v_is) in
    test_is _ _ _ (both _ _ (is_same text _ same) (both _ _ (le_is least _ (omega arith)) (le_is _ most (omega arith)))) v_is

pub number-none : (least most : ℕ) (text : Text) → ((n : ℕ) → least ≤ n → n ≤ most → text ≡ decimal n → ⊥) → number_in least most text ≡ None
number-none least most text h = none_unless _ _ (λ t.
    let range = second (bytes_eq text (decimal (digits_value 10 text))) _ t in
    h (digits_value 10 text) (le_from _ _ (first _ (nat_le (digits_value 10 text) most) range))
    (le_from _ _ (second (nat_le least (digits_value 10 text)) _ range))
    (same_text text (decimal (digits_value 10 text)) (sym (first _ (nat_le least (digits_value 10 text) && nat_le (digits_value 10 text) most) t))))

pub unparsed : {E : Type 0} (text : Text) (r : Result ℕ E) (e : E) → r ≡ Err e → ParsesUnsigned 64 10 text r
    → (n : ℕ) → n < 2 ^ 64 → text ≡ decimal n → ⊥
unparsed text r e was p n h is = let same : r ≡ Ok n = parse-decimal 64 n text r h h is p in cc

pub parsed : {E : Type 0} (text : Text) (m : ℕ) (r : Result ℕ E) → r ≡ Ok m → ParsesUnsigned 64 10 text r
    → (n : ℕ) → n < 2 ^ 64 → text ≡ decimal n → m ≡ n
parsed text m r was p n h is = let same : r ≡ Ok n = parse-decimal 64 n text r h h is p in cc
