-- A text in pieces.
use Rattle.std.specs.Prelude.{ℕ, List, Vec, flat_map}

module _ {Y : Type 0} where
  abbrev pub joined : List (Vec ℕ Y) → List ℕ
  joined pieces = flat_map (λ piece. piece.items) pieces
