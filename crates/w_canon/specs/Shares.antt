-- How many nodes stand under each node of a forest, and where a node stands among those under its parent: as far as they were counted, the
-- last node first.
use Rattle.std.specs.Prelude.{◌≡◌, ℕ, zero, suc, ◌+◌, ◌<◌, ◌≤◌, List, [], ◌∷◌, length, get_or, Option, Some, None, slice_get}
use Rattle.w_canon.specs.declared.forest.Span.{Span}

-- the sum of the first k numbers
abbrev pub sum_to : ℕ → List ℕ → ℕ
sum_to zero us = 0
sum_to (suc k) [] = 0
sum_to (suc k) (u ∷ us) = u + sum_to k us

-- the nodes counted under a parent, or in all
abbrev pub counted : List ℕ → ℕ → Option ℕ → ℕ
counted us roots None = roots
counted us roots (Some p) = get_or us p 0

-- the nodes from k on were counted: each has its place among those of its parent, in front of all that are before it there
pub record AreShared (ps : List (Option ℕ)) (us os : List ℕ) (roots k : ℕ) : Type 0 where
  pub long_under : length us ≡ length ps
  pub long_offsets : length os ≡ length ps
  pub few : sum_to k us + roots + k ≤ length ps
  pub inside : (x : ℕ) (o : Option ℕ) → k ≤ x → slice_get ps x ≡ Some o → get_or os x 0 + get_or us x 0 + 1 ≤ counted us roots o
  pub apart : (x y : ℕ) (o : Option ℕ) → k ≤ x → x < y → slice_get ps x ≡ Some o → slice_get ps y ≡ Some o → get_or os y 0 + get_or us y 0 + 1 ≤ get_or os x 0

abbrev pub none : Span
none = record { from = 0; to = 0 }

-- where the nodes under a parent begin, or all
abbrev pub start : List Span → Option ℕ → ℕ
start ss None = 0
start ss (Some p) = (get_or ss p none).from + 1

-- the spans of the first k nodes
pub record AreSpansBelow (ps : List (Option ℕ)) (us os : List ℕ) (ss : List Span) (k : ℕ) : Type 0 where
  pub long : length ss ≡ k
  pub from : (x : ℕ) (o : Option ℕ) → x < k → slice_get ps x ≡ Some o → (get_or ss x none).from ≡ start ss o + get_or os x 0
  pub to : (x : ℕ) → x < k → (get_or ss x none).to ≡ (get_or ss x none).from + get_or us x 0 + 1
  pub few : (x : ℕ) → x < k → (get_or ss x none).to ≤ length ps
