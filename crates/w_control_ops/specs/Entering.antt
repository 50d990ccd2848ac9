-- How blocks, loops and ifs are entered.
use Rattle.std.specs.Prelude.{◌≡◌, ℕ, zero, suc, ◌+◌, ◌∷◌, take, drop, Option, Some, None}
use Rattle.w_syntax.specs.declared.instructions.BlockKind.{BlockKind}
use Rattle.w_syntax.specs.declared.instructions.BlockKind.TheVariants as kind
use Rattle.w_segment.specs.Shape.{Shape, Label}

-- how many operands a branch to the label keeps, of a block with so many parameters and results
abbrev pub kept_by : BlockKind → ℕ → ℕ → ℕ
kept_by kind.Block params results = results
kept_by kind.Loop params results = params

-- where it leads, for a block at the place p that ends at z
abbrev pub target_of : BlockKind → ℕ → ℕ → ℕ
target_of kind.Block p z = z + 1
target_of kind.Loop p z = p

-- where the contents begin that a number chooses, for an if at the place p with an else at y, if it has one, that ends at z; without
-- an else there are none, and they stand at the end
abbrev pub start_of : ℕ → ℕ → Option ℕ → ℕ → ℕ
start_of zero p (Some y) z = y + 1
start_of zero p None z = z
start_of (suc n) p y z = p + 1

-- so many operands are taken off, and a label with this arity and target stands around so many of those beneath; the stack stands at
-- the place
pub record IsLabelled (popped params arity target start : ℕ) (s s' : Shape) : Type 0 where
  pub levels : s'.levels ≡ Label (drop params (drop popped s.operands)) arity target ∷ s.levels
  pub operands : s'.operands ≡ take params (drop popped s.operands)
  pub func : s'.func ≡ s.func
  pub place : s'.place ≡ start
  pub stage : s'.stage ≡ s.stage
  pub capacity : s'.capacity ≡ s.capacity
