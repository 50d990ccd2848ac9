-- The text of a number has a value that is no greater than the greatest.
use Rattle.std.proofs.Common.{◌≡◌, ℕ, ◌≤◌, Bool, true, false, if◌then◌else◌, List, [], ◌∷◌, ◌++◌, Option, Some, None, refl, sym, ap, ◌∙◌}
use Rattle.std.proofs.Math.Nat.{min-eq_left}
use Rattle.std.specs.Prelude.{unwrap_or}
use Rattle.std.specs.List.{list_all}
use Rattle.std.specs.Str.{bytes_eq}
use Rattle.s_syntax.specs.declared.token.Kind.{Kind}
use Rattle.s_syntax.specs.declared.token.Kind.TheVariants as kind
use Rattle.s_syntax.specs.declared.token.Token.{Token}
use Rattle.s_lex.specs.Texts.{IsText, word, number, symbol, kind_in, keywords, word_kind, long_symbols, short_symbols, value, greatest}
use Rattle.s_lex.proofs.Tables.{both}
use Rattle.s_grammar.specs.Kinds.{Kinds, is, other_than}
use Rattle.s_grammar.specs.Texts.{text_of, number_of}

-- what each kind of a table passes a kind that is found there passes
found_kind : (test : Kinds) (rs : List (List ℕ × Kind)) (t : List ℕ) (k : Kind) → list_all (λ (r : List ℕ × Kind). test r.1) rs ≡ true → kind_in rs t ≡ Some k → test k ≡ true
found_kind test [] t k a e = absurd cc
found_kind test (r ∷ rs) t k a e = cases (bytes_eq t r.0) e (both (test r.1) (list_all (λ (q : List ℕ × Kind). test q.1) rs) a) (found_kind test rs t k)
  where
    cases : (v : Bool) → (if v then Some r.1 else kind_in rs t) ≡ Some k → (test r.1 ≡ true) × (list_all (λ (q : List ℕ × Kind). test q.1) rs ≡ true) → (list_all (λ (q : List ℕ × Kind). test q.1) rs ≡ true → kind_in rs t ≡ Some k → test k ≡ true) → test k ≡ true
    cases true f p g = let e : r.1 ≡ k = cc in ap test (sym e) ∙ p.0
    cases false f p g = g p.1 f

-- no table has the kind of numbers
not_found : (rs : List (List ℕ × Kind)) (t : List ℕ) → list_all (λ (r : List ℕ × Kind). other_than (is kind.Int) r.1) rs ≡ true → kind_in rs t ≡ Some kind.Int → ⊥
not_found rs t a e = let q : false ≡ true = found_kind (other_than (is kind.Int)) rs t kind.Int a e in absurd cc

-- a word is of another kind
kind_or_name : (o : Option Kind) → (o ≡ Some kind.Int → ⊥) → unwrap_or o kind.Name ≡ kind.Int → ⊥
kind_or_name None h e = absurd cc
kind_or_name (Some k) h e = h (ap (λ (j : Kind). Some j) e)

-- a word has another kind than a number
no_word : (t : List ℕ) → word_kind t ≡ kind.Int → ⊥
unfolding word_kind
no_word t e = kind_or_name (kind_in keywords t) (not_found keywords t refl) e

-- the value of a number's text is no greater than the greatest
value_fits : {k : Kind} {t : List ℕ} → IsText k t → k ≡ kind.Int → value t ≤ greatest
value_fits (word {t = t} w) e = absurd (no_word t e)
value_fits (number d v) e = v
value_fits (symbol {t = t} s) e = absurd (not_found (long_symbols ++ short_symbols) t refl (s ∙ ap (λ (j : Kind). Some j) e))

-- the number of a token with the text of one is not cut
pub number_is_value : (bytes : List ℕ) (t : Token) → IsText kind.Int (text_of bytes t) → (number_of bytes t).value ≡ value (text_of bytes t)
number_is_value bytes t h = min-eq_left (value_fits h refl)
