-- Fronts of tokens with the end behind them.
use Rattle.std.proofs.Common.{◌≡◌, ℕ, zero, suc, ◌+◌, ◌-◌, ◌<◌, ◌≤◌, inl, inr, List, [], ◌∷◌, ◌++◌, length, take, drop, Option, Some, refl, ap, ◌∙◌, append_assoc, arith, length-append}
use Rattle.std.proofs.lemmas.Bool.{cases_lt}
use Rattle.s_syntax.specs.declared.token.Token.{Token}
use Rattle.s_grammar.specs.Kinds.{kind_of}
use Rattle.s_parse.specs.Refusal.{with_end}

-- a front does not depend on what follows
pub same_front : (k : ℕ) (front x y : List Token) → k ≤ length front → take k (with_end (front ++ x)) ≡ take k (with_end (front ++ y))
same_front zero front x y l = refl
same_front (suc k) [] x y l = absurd (omega arith)
same_front (suc k) (t ∷ f) x y l = ap (λ (q : List (Option Token)). Some t ∷ q) (same_front k f x y (omega arith))

-- a front, and what follows it
pub take_drop : (k : ℕ) (q : List (Option Token)) → q ≡ take k q ++ drop k q
take_drop zero q = refl
take_drop (suc k) [] = refl
take_drop (suc k) (t ∷ q) = ap (λ (l : List (Option Token)). t ∷ l) (take_drop k q)

-- equal lists have equal parts
cons_parts : (t u : Token) (a b : List (Option Token)) → ◌≡◌ {A = List (Option Token)} (Some t ∷ a) (Some u ∷ b) → (t ≡ u) × (a ≡ b)
cons_parts t u a b e = (cc, cc)

-- equal tokens have one kind
some_kind : (t u : Token) (a b : List (Option Token)) → ◌≡◌ {A = List (Option Token)} (Some t ∷ a) (Some u ∷ b) → t.kind ≡ u.kind
some_kind t u a b e = let d : t ≡ u = (cons_parts t u a b e).0 in ap (λ (v : Token). v.kind) d

-- what begins with the tokens of a front and one more
pub goes_on_same : (front rest ts : List Token) (q : List (Option Token)) → with_end ts ≡ take (suc (length front)) (with_end (front ++ rest)) ++ q → (s : List Token) × (ts ≡ front ++ s) × (kind_of s ≡ kind_of rest) × ((rest ≡ [] → s ≡ []) × (s ≡ [] → rest ≡ []))
goes_on_same [] [] [] q e = ([], refl, refl, (λ h. refl, λ h. refl))
goes_on_same [] [] (t ∷ ts) q e = absurd cc
goes_on_same [] (u ∷ rest) [] q e = absurd cc
goes_on_same [] (u ∷ rest) (t ∷ ts) q e = (t ∷ ts, refl, some_kind t u (with_end ts) q e, (λ h. absurd cc, λ h. absurd cc))
goes_on_same (f ∷ front) rest [] q e = absurd cc
goes_on_same (f ∷ front) rest (t ∷ ts) q e =
    let d = cons_parts t f (with_end ts) (take (suc (length front)) (with_end (front ++ rest)) ++ q) e in
    let g = goes_on_same front rest ts q d.1 in
    (g.0, ap (λ (l : List Token). t ∷ l) g.1 ∙ ap (λ (u : Token). u ∷ (front ++ g.0)) d.0, g.2, g.3)

-- the length of a front
pub before : (a b : List Token) → length (a ++ b) - length b ≡ length a
before a b = omega (arith, length-append a b)

-- nothing in the middle of lists
pub drop_none : (front mu c : List Token) → mu ≡ [] → (front ++ mu) ++ c ≡ front ++ c
drop_none front mu c e = append_assoc front mu c ∙ ap (λ (l : List Token). front ++ (l ++ c)) e

-- a front and one token more
pub take_front : (front rest : List Token) (u : Token) → take (suc (length front)) (front ++ u ∷ rest) ≡ front ++ u ∷ []
take_front [] rest u = refl
take_front (t ∷ f) rest u = ap (λ (l : List Token). t ∷ l) (take_front f rest u)

-- lists regrouped
pub opt_assoc : (a b c : List (Option Token)) → (a ++ b) ++ c ≡ a ++ (b ++ c)
opt_assoc a b c = append_assoc a b c

-- a front of a front
pub take_take : (k j : ℕ) (q : List (Option Token)) → k ≤ j → take j q ≡ take k q ++ drop k (take j q)
take_take zero j q l = refl
take_take (suc k) zero q l = absurd (omega arith)
take_take (suc k) (suc j) [] l = refl
take_take (suc k) (suc j) (t ∷ q) l = ap (λ (r : List (Option Token)). t ∷ r) (take_take k j q (omega arith))

-- neither is below the other
pub not_below : (a b : ℕ) → (a < b → ⊥) → (b < a → ⊥) → a ≡ b
not_below a b f g = elim (cases_lt a b) [ inl l ↦ absurd (f l) | inr l ↦ elim (cases_lt b a) [ inl k ↦ absurd (g k) | inr k ↦ omega arith ] ]

-- nesting 65 is above 64
pub above : (n m : ℕ) → n ≡ m + 65 → n ≤ m + 64 → ⊥
above n m e l = absurd (omega arith)
