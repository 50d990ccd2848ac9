-- Where a stack stands behind a frame that was left.
use Rattle.std.specs.Prelude.{List, [], ◌∷◌}
use Rattle.w_segment.specs.declared.entry.Stage.{Stage}
use Rattle.w_segment.specs.declared.entry.Stage.TheVariants.{Body, Values}
use Rattle.w_segment.specs.Shape.{Shape, Level}
use Rattle.w_segment.specs.Changes.{staged}

-- in the caller's body, or behind the outermost frame, where the operands are what the segment gives
abbrev pub stage_in : List Level → Stage
stage_in [] = Values
stage_in (l ∷ ls) = Body

abbrev pub ended_in : List Level → Shape → Shape
ended_in [] s = staged Values s
ended_in (l ∷ ls) s = s

abbrev pub ended : Shape → Shape
ended s = ended_in s.levels s
