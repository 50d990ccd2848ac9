-- Forests, whose nodes are numbered, each behind its parent; and spans of the nodes, which tell which node stands under which.
use Rattle.std.specs.Prelude.{◌≡◌, ◌↔◌, ℕ, ◌<◌, nat_le, nat_lt, Bool, ◌&&◌, IsTrue, List, length, Option, Some, slice_get}
use Rattle.w_canon.specs.declared.forest.Span.{Span}

-- node x stands directly under node p
abbrev pub IsParent : List (Option ℕ) → ℕ → ℕ → Type 0
IsParent ps x p = slice_get ps x ≡ Some (Some p)

abbrev pub IsForest : List (Option ℕ) → Type 0
IsForest ps = (x p : ℕ) → IsParent ps x p → p < x

-- x is y, or stands under it
pub data IsUnder (ps : List (Option ℕ)) : ℕ → ℕ → Type 0 where
  itself : {x : ℕ} → IsUnder ps x x
  above : {x p y : ℕ} → IsParent ps x p → IsUnder ps p y → IsUnder ps x y

-- the first span begins inside the second
abbrev pub span_test : Span → Span → Bool
span_test a b = nat_le b.from a.from && nat_lt a.from b.to

-- the spans of the nodes: that of a node begins inside those of the nodes under which it stands, and inside its own
pub record AreSpans (ps : List (Option ℕ)) (ss : List Span) : Type 0 where
  pub as_many : length ss ≡ length ps
  pub decided : (x y : ℕ) (a b : Span) → slice_get ss x ≡ Some a → slice_get ss y ≡ Some b → IsTrue (span_test a b) ↔ IsUnder ps x y
