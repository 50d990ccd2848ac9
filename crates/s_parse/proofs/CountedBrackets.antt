-- Brackets counted along tokens.
use Rattle.std.proofs.Common.{◌≡◌, ℕ, zero, suc, ◌+◌, ◌≤◌, List, [], ◌∷◌, ◌++◌, length, take, Option, Some, ap, arith}
use Rattle.s_syntax.specs.declared.token.Token.{Token}
use Rattle.s_grammar.specs.Kinds.{Turn, Opens, Closes, Passes, turn}
use Rattle.s_grammar.proofs.Walks.{walk_by, walk}
use Rattle.s_parse.specs.Refusal.{opened_by, closed_by, opened_brackets, closed_brackets}

-- a step of what a walk counts
counted_by : (t : Turn) (n j : ℕ) (o c : ℕ) (f : ℕ → Option ℕ) → ((k : ℕ) → f k ≡ Some j → o + j ≡ c + k) → walk_by t n f ≡ Some j → (opened_by t + o) + j ≡ (closed_by t + c) + n
counted_by Opens zero j o c f h e = absurd cc
counted_by Opens (suc n) j o c f h e = omega (arith, h n e)
counted_by Closes n j o c f h e = omega (arith, h (suc n) e)
counted_by Passes n j o c f h e = omega (arith, h n e)

-- what a walk leaves
pub walk_counts : (ts : List Token) (n j : ℕ) → walk n ts ≡ Some j → opened_brackets ts + j ≡ closed_brackets ts + n
unfolding opened_brackets closed_brackets
walk_counts [] n j e = let q : n ≡ j = cc in omega arith
walk_counts (t ∷ ts) n j e = counted_by (turn t.kind) n j (opened_brackets ts) (closed_brackets ts) (λ k. walk k ts) (λ k h. walk_counts ts k j h) e

-- a step of how far it goes
bounded_by : (t : Turn) (n j : ℕ) (o c : ℕ) (f : ℕ → Option ℕ) → ((k : ℕ) → f k ≡ Some j → o ≤ c + k) → walk_by t n f ≡ Some j → opened_by t + o ≤ (closed_by t + c) + n
bounded_by Opens zero j o c f h e = absurd cc
bounded_by Opens (suc n) j o c f h e = omega (arith, h n e)
bounded_by Closes n j o c f h e = omega (arith, h (suc n) e)
bounded_by Passes n j o c f h e = omega (arith, h n e)

-- no front of a walk goes beyond
pub walk_bounds : (ts rest : List Token) (n j k : ℕ) → walk n ts ≡ Some j → k ≤ length ts → opened_brackets (take k (ts ++ rest)) ≤ closed_brackets (take k (ts ++ rest)) + n
unfolding opened_brackets closed_brackets
walk_bounds ts rest n j zero e l = omega arith
walk_bounds [] rest n j (suc k) e l = absurd (omega arith)
walk_bounds (t ∷ ts) rest n j (suc k) e l = bounded_by (turn t.kind) n j (opened_brackets (take k (ts ++ rest))) (closed_brackets (take k (ts ++ rest))) (λ i. walk i ts) (λ i h. walk_bounds ts rest i j k h (omega arith)) e

-- no front of a walk goes beyond
pub bounds_all : (ts : List Token) (n j k : ℕ) → walk n ts ≡ Some j → opened_brackets (take k ts) ≤ closed_brackets (take k ts) + n
unfolding opened_brackets closed_brackets
bounds_all ts n j zero e = omega arith
bounds_all [] n j (suc k) e = omega arith
bounds_all (t ∷ ts) n j (suc k) e = bounded_by (turn t.kind) n j (opened_brackets (take k ts)) (closed_brackets (take k ts)) (λ i. walk i ts) (λ i h. bounds_all ts i j k h) e

-- brackets opened in two parts
pub opened_append : (a b : List Token) → opened_brackets (a ++ b) ≡ opened_brackets a + opened_brackets b
unfolding opened_brackets
opened_append [] b = omega arith
opened_append (t ∷ a) b = omega (arith, opened_append a b)

-- brackets closed in two parts
pub closed_append : (a b : List Token) → closed_brackets (a ++ b) ≡ closed_brackets a + closed_brackets b
unfolding closed_brackets
closed_append [] b = omega arith
closed_append (t ∷ a) b = omega (arith, closed_append a b)

-- a bracket that opens
pub one_open : (u : Token) → turn u.kind ≡ Opens → (opened_brackets (u ∷ []) ≡ 1) × (closed_brackets (u ∷ []) ≡ 0)
unfolding opened_brackets closed_brackets
one_open u e = (ap (λ (t : Turn). opened_by t + 0) e, ap (λ (t : Turn). closed_by t + 0) e)
