-- Numbers that follow each other.
use Rattle.std.proofs.Common.{◌≡◌, ℕ, zero, suc, ◌+◌, List, [], ◌∷◌, ◌++◌, sym, ap, ◌∙◌, append_assoc, arith}
use Rattle.std.specs.List.{range_with_len}

-- one more at their end
range_more : (a n : ℕ) → range_with_len a (suc n) ≡ range_with_len a n ++ (a + n) ∷ []
range_more a zero = ap (λ (k : ℕ). k ∷ []) (omega arith)
range_more a (suc n) = ap (λ (l : List ℕ). a ∷ l) (range_more (a + 1) n ∙ ap (λ (k : ℕ). range_with_len (a + 1) n ++ k ∷ []) (let e : (a + 1) + n ≡ a + suc n = omega arith in e))

-- the same behind others
pub range_on : (all old new : List ℕ) (from i v : ℕ) → old ≡ all ++ range_with_len from i → v ≡ from + i → new ≡ old ++ v ∷ [] → new ≡ all ++ range_with_len from (i + 1)
range_on all old new from i v before is made =
    let next : suc i ≡ i + 1 = omega arith in
    made ∙ ap (λ (l : List ℕ). l ++ v ∷ []) before ∙ append_assoc all (range_with_len from i) (v ∷ [])
    ∙ ap (λ (k : ℕ). all ++ (range_with_len from i ++ k ∷ [])) is ∙ ap (λ (l : List ℕ). all ++ l) (sym (range_more from i) ∙ ap (range_with_len from) next)
