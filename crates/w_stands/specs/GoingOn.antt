-- Where a stack stands behind an instruction that takes and gives operands.
use Rattle.std.specs.Prelude.{◌≡◌, ℕ, ◌+◌, List, ◌∷◌, ◌++◌, drop}
use Rattle.w_types.specs.declared.value.Value.{Value}
use Rattle.w_segment.specs.Shape.{Shape}
use Rattle.w_segment.specs.Changes.{pushed, discarded, moved}

-- the value stands in place of so many operands, and the next instruction comes
abbrev pub replaced : ℕ → Value → Shape → Shape
replaced n v s = moved (s.place + 1) (pushed v (discarded n s))

-- so many operands are gone, and the next instruction comes
abbrev pub dropped : ℕ → Shape → Shape
dropped n s = moved (s.place + 1) (discarded n s)

-- the value stands on the operands, and the next instruction comes
pub record IsPushedNext (v : Value) (s s' : Shape) : Type 0 where
  pub levels : s'.levels ≡ s.levels
  pub operands : s'.operands ≡ v ∷ s.operands
  pub func : s'.func ≡ s.func
  pub place : s'.place ≡ s.place + 1
  pub stage : s'.stage ≡ s.stage
  pub capacity : s'.capacity ≡ s.capacity

-- these stand in place of the topmost n operands, and the next instruction comes
pub record IsBehind (n : ℕ) (given : List Value) (s s' : Shape) : Type 0 where
  pub levels : s'.levels ≡ s.levels
  pub operands : s'.operands ≡ given ++ drop n s.operands
  pub func : s'.func ≡ s.func
  pub place : s'.place ≡ s.place + 1
  pub stage : s'.stage ≡ s.stage
  pub capacity : s'.capacity ≡ s.capacity
