-- Texts that are found in tables.
use Rattle.std.proofs.Common.{◌≡◌, ℕ, ◌⊎◌, inl, inr, Bool, true, false, not, ◌&&◌, ◌||◌, if◌then◌else◌, List, [], ◌∷◌, ◌++◌, length, Option, Some, None, refl, sym, ap, ◌∙◌, arith}
use Rattle.std.specs.Prelude.{nat_eq}
use Rattle.std.specs.List.{list_all}
use Rattle.std.specs.Str.{bytes_eq}
use Rattle.std.proofs.lemmas.Bool.Decides.{Decides-eqb, nat_tests}
use Rattle.std.proofs.lemmas.Slice.Eq.{bytes_eq-Decides}
use Rattle.s_syntax.specs.declared.token.Kind.{Kind}
use Rattle.s_lex.specs.Bytes.{is_separator, is_hash, is_digit, is_letter}
use Rattle.s_lex.specs.Texts.{kind_in, long_symbols, short_symbols, symbol_kind}
use Rattle.s_lex.specs.Stands.{begins}

pub both : (a b : Bool) → (a && b) ≡ true → (a ≡ true) × (b ≡ true)
both true true e = (refl, refl)
both true false e = absurd cc
both false b e = absurd cc

-- what each text of a table passes a text that is found there passes
found_passes : (test : List ℕ → Bool) (rs : List (List ℕ × Kind)) (t : List ℕ) (k : Kind) → list_all (λ (r : List ℕ × Kind). test r.0) rs ≡ true → kind_in rs t ≡ Some k → test t ≡ true
found_passes test [] t k a e = absurd cc
found_passes test (r ∷ rs) t k a e = cases (bytes_eq t r.0) refl e (both (test r.0) (list_all (λ (q : List ℕ × Kind). test q.0) rs) a) (found_passes test rs t k)
  where
    cases : (v : Bool) → bytes_eq t r.0 ≡ v → (if v then Some r.1 else kind_in rs t) ≡ Some k → (test r.0 ≡ true) × (list_all (λ (q : List ℕ × Kind). test q.0) rs ≡ true) → (list_all (λ (q : List ℕ × Kind). test q.0) rs ≡ true → kind_in rs t ≡ Some k → test t ≡ true) → test t ≡ true
    cases true h f p g = ap test ((bytes_eq-Decides t r.0).0 h) ∙ p.0
    cases false h f p g = g p.1 f

pub long_two : (t : List ℕ) (k : Kind) → kind_in long_symbols t ≡ Some k → length t ≡ 2
long_two t k e = (Decides-eqb (length t) 2).0 (found_passes (λ (s : List ℕ). nat_eq (length s) 2) long_symbols t k refl e)

pub short_one : (t : List ℕ) (k : Kind) → kind_in short_symbols t ≡ Some k → length t ≡ 1
short_one t k e = (Decides-eqb (length t) 1).0 (found_passes (λ (s : List ℕ). nat_eq (length s) 1) short_symbols t k refl e)

-- no other token begins as a symbol does
abbrev is_other : ℕ → Bool
is_other b = not (is_separator b || (is_hash b || (is_letter b || is_digit b)))

pub symbol_begins : (t : List ℕ) (k : Kind) → symbol_kind t ≡ Some k → begins is_other t ≡ true
symbol_begins t k e = found_passes (begins is_other) (long_symbols ++ short_symbols) t k refl e

pub others_none : (b : ℕ) → is_other b ≡ true → (is_separator b ≡ false) × (is_hash b ≡ false) × (is_letter b ≡ false) × (is_digit b ≡ false)
others_none b e = cases (is_separator b) (is_hash b) (is_letter b) (is_digit b) e
  where
    cases : (s h l d : Bool) → not (s || (h || (l || d))) ≡ true → (s ≡ false) × (h ≡ false) × (l ≡ false) × (d ≡ false)
    cases true h l d e = absurd cc
    cases false true l d e = absurd cc
    cases false false true d e = absurd cc
    cases false false false true e = absurd cc
    cases false false false false e = (refl, refl, refl, refl)

abbrev first_of : Option Kind → Option Kind → Option Kind
first_of (Some k) o = Some k
first_of None o = o

in_both : (rs qs : List (List ℕ × Kind)) (t : List ℕ) → kind_in (rs ++ qs) t ≡ first_of (kind_in rs t) (kind_in qs t)
in_both [] qs t = refl
in_both (r ∷ rs) qs t = cases (bytes_eq t r.0) (in_both rs qs t)
  where
    cases : (v : Bool) → kind_in (rs ++ qs) t ≡ first_of (kind_in rs t) (kind_in qs t) → (if v then Some r.1 else kind_in (rs ++ qs) t) ≡ first_of (if v then Some r.1 else kind_in rs t) (kind_in qs t)
    cases true h = refl
    cases false h = h

symbol_split : (t : List ℕ) → symbol_kind t ≡ first_of (kind_in long_symbols t) (kind_in short_symbols t)
symbol_split t = in_both long_symbols short_symbols t

-- a long symbol is a symbol
pub symbol_from_long : (t : List ℕ) (k : Kind) → kind_in long_symbols t ≡ Some k → symbol_kind t ≡ Some k
symbol_from_long t k e = symbol_split t ∙ ap (λ (o : Option Kind). first_of o (kind_in short_symbols t)) e

none_long : (t : List ℕ) (o : Option Kind) → kind_in long_symbols t ≡ o → (length t ≡ 2 → ⊥) → o ≡ None
none_long t (Some k) e f = absurd (f (long_two t k e))
none_long t None e f = refl

-- and so is a short one
pub symbol_from_short : (t : List ℕ) (k : Kind) → kind_in short_symbols t ≡ Some k → symbol_kind t ≡ Some k
symbol_from_short t k e =
    let s = short_one t k e in
    let n : kind_in long_symbols t ≡ None = none_long t (kind_in long_symbols t) refl (λ (l : length t ≡ 2). absurd (omega (arith, l, s))) in
    symbol_split t ∙ ap (λ (o : Option Kind). first_of o (kind_in short_symbols t)) n ∙ e

-- a symbol is a long one or a short one
pub symbol_cases : (t : List ℕ) (k : Kind) → symbol_kind t ≡ Some k → (kind_in long_symbols t ≡ Some k) ⊎ (kind_in short_symbols t ≡ Some k)
symbol_cases t k e = cases (kind_in long_symbols t) refl (sym (symbol_split t) ∙ e)
  where
    cases : (o : Option Kind) → kind_in long_symbols t ≡ o → first_of o (kind_in short_symbols t) ≡ Some k → (kind_in long_symbols t ≡ Some k) ⊎ (kind_in short_symbols t ≡ Some k)
    cases (Some j) h f = inl (h ∙ f)
    cases None h f = inr f

-- a letter begins no separator and no comment
pub letters_none : (b : ℕ) → is_letter b ≡ true → (is_separator b ≡ false) × (is_hash b ≡ false)
letters_none b e = (separator, hash)
  where
    separator : is_separator b ≡ false
    separator = grind (arith, nat_tests)

    hash : is_hash b ≡ false
    hash = grind (arith, nat_tests)

-- a digit neither, nor a word
pub digits_none : (b : ℕ) → is_digit b ≡ true → (is_separator b ≡ false) × (is_hash b ≡ false) × (is_letter b ≡ false)
digits_none b e = (separator, hash, letter)
  where
    separator : is_separator b ≡ false
    separator = grind (arith, nat_tests)

    hash : is_hash b ≡ false
    hash = grind (arith, nat_tests)

    letter : is_letter b ≡ false
    letter = grind (arith, nat_tests)

-- a number sign begins no separator
pub hash_none : (b : ℕ) → is_hash b ≡ true → is_separator b ≡ false
hash_none b e = grind (arith, nat_tests)
