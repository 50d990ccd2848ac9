-- How many segments and frames a chain has.
use Rattle.std.specs.Prelude.{◌≡◌, ℕ, ◌+◌, ◌^◌, ◌<◌, ◌≤◌, List, [], ◌∷◌, length, All}
use Rattle.w_segment.specs.Shape.{frames_of}
use Rattle.w_segment.specs.Link.{Link, rest}

abbrev pub frames_in_all : List Link → ℕ
frames_in_all [] = 0
frames_in_all (x ∷ xs) = frames_of x.shape.levels + frames_in_all xs

-- of the innermost one
abbrev pub frames_in_top : List Link → ℕ
frames_in_top [] = 0
frames_in_top (x ∷ xs) = frames_of x.shape.levels

-- n segments, of which those around the innermost one have f frames; a stack counts its own by 32 bits
pub record IsCounted (n f : ℕ) (xs : List Link) : Type 0 where
  pub segments : n ≡ length xs
  pub frames : f ≡ frames_in_all (rest xs)
  pub few : n ≤ 2 ^ 31
  pub each : All (λ (x : Link). frames_of x.shape.levels < 2 ^ 32) (rest xs)
