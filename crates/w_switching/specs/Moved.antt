-- Where segments and entries go as stacks are switched, told of them alone.
use Rattle.std.specs.Prelude.{◌≡◌, ℕ, ◌+◌, List, [], ◌∷◌, ◌++◌, length, take, drop, reverse, ⊤}
use Rattle.w_types.specs.declared.value.Value.{Value}
use Rattle.w_types.specs.declared.value.Value.TheVariants as value
use Rattle.w_segment.specs.declared.entry.Stage.TheVariants.{Branch}
use Rattle.w_segment.specs.Shape.{SameParts}
use Rattle.w_segment.specs.Changes.{pushed, pushed_all, discarded, moved, staged}
use Rattle.w_segment.specs.Link.{Link, top, rest, with_top, with_clauses}
use Rattle.w_conts.specs.Conts.{Conts, IsOf, with_entry}
use Rattle.w_switching.specs.declared.stored.Stored.{Stored}

-- the same segments but for room
abbrev pub SameLinks : List Link → List Link → Type 0
SameLinks [] [] = ⊤
SameLinks [] (y ∷ ys) = ⊥
SameLinks (x ∷ xs) [] = ⊥
SameLinks (x ∷ xs) (y ∷ ys) = SameParts x.shape y.shape × (y.clauses ≡ x.clauses) × SameLinks xs ys

-- the reference to the next continuation, at a place
abbrev pub next_ref : ℕ → ℕ → Value
next_ref place serial = value.Cont (record { place = place; serial = serial })

-- some segments once they took so many arguments beneath the reference, inside those that wait at the instruction and go on behind it
abbrev pub passed : ℕ → List Link → List Link → List Link
passed n segs chain =
    with_top (pushed_all (reverse (take n (drop 1 (top chain).shape.operands))) (top segs).shape) segs
    ++ with_clauses (top chain).shape.place (with_top (moved ((top chain).shape.place + 1) (discarded n (discarded 1 (top chain).shape))) chain)

-- the operands of the innermost segment went onto those of the one that waited
abbrev pub merged : List Link → List Link
merged chain = with_top (pushed_all (reverse (top chain).shape.operands) (top (rest chain)).shape) (rest chain)

-- Some segments took so many arguments beneath the reference, and are stored as a continuation of so many values; the reference to it is
-- left on the innermost segment.
pub record Bound (n takes : ℕ) (segs chain : List Link) (conts : Conts Stored) (chain' : List Link) (conts' : Conts Stored) : Type 0 where
  pub b : Stored
  pub place : ℕ
  pub takes_is : b.takes ≡ takes
  pub part : b.segment.value ≡ with_top (pushed_all (reverse (take n (drop 1 (top chain).shape.operands))) (top segs).shape) segs
  pub conts_after : conts' ≡ with_entry place b conts
  pub of : IsOf (record { place = place; serial = length conts.entries }) conts'
  pub chain_after : chain' ≡ with_top (moved ((top chain).shape.place + 1) (pushed (next_ref place (length conts.entries)) (discarded n (discarded 1 (top chain).shape)))) chain

-- The segments up to a layer are stored behind their instruction, without their topmost n operands, as a continuation that takes so many
-- values; these operands and the reference to it are left at a branch on the segment that waits outside.
pub record Captured (n takes layer label : ℕ) (chain : List Link) (conts : Conts Stored) (chain' : List Link) (conts' : Conts Stored) : Type 0 where
  pub b : Stored
  pub place : ℕ
  pub takes_is : b.takes ≡ takes
  pub stored : b.segment.value ≡ with_top (moved ((top chain).shape.place + 1) (discarded n (top chain).shape)) (take (layer + 1) chain)
  pub conts_after : conts' ≡ with_entry place b conts
  pub of : IsOf (record { place = place; serial = length conts.entries }) conts'
  pub chain_after : chain' ≡ with_top (staged (Branch label) (pushed (next_ref place (length conts.entries)) (pushed_all (reverse (take n (top chain).shape.operands)) (top (drop (layer + 1) chain)).shape)))
      (drop (layer + 1) chain)

-- Some segments took n arguments beneath the reference. Those up to a layer are stored behind their instruction, without these and the
-- reference, as a continuation that takes so many values. The reference to it was given last to the others, which went inside what waits
-- outside the layer.
pub record Exchanged (n takes layer : ℕ) (segs chain : List Link) (conts : Conts Stored) (chain' : List Link) (conts' : Conts Stored) : Type 0 where
  pub b : Stored
  pub place : ℕ
  pub takes_is : b.takes ≡ takes
  pub stored : b.segment.value ≡ with_top (moved ((top chain).shape.place + 1) (discarded n (discarded 1 (top chain).shape))) (take (layer + 1) chain)
  pub conts_after : conts' ≡ with_entry place b conts
  pub of : IsOf (record { place = place; serial = length conts.entries }) conts'
  pub chain_after : chain' ≡ with_top (pushed (next_ref place (length conts.entries)) (pushed_all (reverse (take n (drop 1 (top chain).shape.operands))) (top segs).shape)) segs
      ++ drop (layer + 1) chain
