-- Rows of script values, beside those of the machine's values.
use Rattle.std.proofs.Common.{◌≡◌, ℕ, suc, ◌+◌, List, [], ◌∷◌, ◌++◌, length, refl, sym, ap, ◌∙◌, append_assoc, append-nil, length-append, arith}
use Rattle.s_meaning.specs.Terms.{Value, Row, ε, ◌▹◌, listed, listed_before}

abbrev pub Values : Type 0
Values = Row

abbrev pub no_values : Values
no_values = ε

infixl 50 ◌▸◌ ◌⧻◌
abbrev pub ◌▸◌ : Values → Value → Values
vs ▸ v = vs ▹ v

-- one row, and another at its right
abbrev pub ◌⧻◌ : Values → Values → Values
us ⧻ ε = us
us ⧻ (vs ▹ v) = (us ⧻ vs) ▹ v

abbrev pub many : Values → ℕ
many ε = 0
many (vs ▹ v) = suc (many vs)

pub both_many : (us vs : Values) → many (us ⧻ vs) ≡ many us + many vs
both_many us ε = let z : many us ≡ many us + 0 = omega arith in z
both_many us (vs ▹ v) = let e = both_many us vs in let z : suc (many (us ⧻ vs)) ≡ many us + suc (many vs) = omega (arith, e) in z

-- ## Their lists

pub before_is : (vs : Values) (us : List Value) → listed_before vs us ≡ listed vs ++ us
before_is ε us = refl
before_is (vs ▹ v) us =
    before_is vs (v ∷ us) ∙ sym (append_assoc (listed vs) (v ∷ []) us) ∙ ap (λ (l : List Value). l ++ us) (sym (before_is vs (v ∷ [])))

pub listed_more : (vs : Values) (v : Value) → listed (vs ▸ v) ≡ listed vs ++ v ∷ []
listed_more vs v = before_is vs (v ∷ [])

pub listed_both : (us vs : Values) → listed (us ⧻ vs) ≡ listed us ++ listed vs
listed_both us ε = sym (append-nil (listed us))
listed_both us (vs ▹ v) =
    listed_more (us ⧻ vs) v ∙ ap (λ (l : List Value). l ++ v ∷ []) (listed_both us vs) ∙ append_assoc (listed us) (listed vs) (v ∷ []) ∙ ap (λ (l : List Value). listed us ++ l) (sym (listed_more vs v))

pub listed_many : (vs : Values) → length (listed vs) ≡ many vs
listed_many ε = refl
listed_many (vs ▹ v) =
    let e = listed_many vs in let f = length-append (listed vs) (v ∷ []) in
    ap (λ (l : List Value). length l) (listed_more vs v) ∙ (let z : length (listed vs ++ v ∷ []) ≡ suc (many vs) = omega (arith, e, f) in z)
