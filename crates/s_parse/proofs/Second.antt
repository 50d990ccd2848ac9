-- The token behind a token.
use Rattle.std.proofs.Common.{◌≡◌, ℕ, zero, suc, ◌+◌, List, [], ◌∷◌, drop, refl, ap, add-one}
use Rattle.s_syntax.specs.declared.token.Token.{Token}
use Rattle.s_grammar.specs.Kinds.{kind_of}

-- one token less
drop_suc : (at : ℕ) (ts : List Token) → drop 1 (drop at ts) ≡ drop (suc at) ts
drop_suc zero [] = refl
drop_suc zero (t ∷ ts) = refl
drop_suc (suc at) [] = refl
drop_suc (suc at) (t ∷ ts) = drop_suc at ts

-- the same, by a sum
drop_one : (at : ℕ) (ts : List Token) → drop 1 (drop at ts) ≡ drop (at + 1) ts
drop_one at ts = rw add-one (drop_suc at ts)

-- the kind of the second token
pub second_kind : (ts : List Token) (at : ℕ) → kind_of (drop 1 (drop at ts)) ≡ kind_of (drop (at + 1) ts)
second_kind ts at = ap kind_of (drop_one at ts)
