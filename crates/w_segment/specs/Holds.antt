-- A fact of every value that a shape holds.
use Rattle.std.specs.Prelude.{List, [], ◌∷◌, Option, Some, None, ⊤}
use Rattle.w_types.specs.declared.value.Value.{Value}
use Rattle.w_segment.specs.Shape.{Shape, Level, Label, Frame}

-- a fact P, of operands, of the locals that are set, and of all that levels and a shape hold
module _ (P : Value → Type 0) where
  abbrev pub AllOf : List Value → Type 0
  AllOf [] = ⊤
  AllOf (v ∷ vs) = P v × AllOf vs

  abbrev pub AllSet : List (Option Value) → Type 0
  AllSet [] = ⊤
  AllSet (None ∷ ls) = AllSet ls
  AllSet (Some v ∷ ls) = P v × AllSet ls

  abbrev pub LevelsHold : List Level → Type 0
  LevelsHold [] = ⊤
  LevelsHold (Label below n t ∷ ls) = AllOf below × LevelsHold ls
  LevelsHold (Frame below n locals f p ∷ ls) = AllOf below × AllSet locals × LevelsHold ls

  pub record Holds (s : Shape) : Type 0 where
    pub operands : AllOf s.operands
    pub levels : LevelsHold s.levels
