-- Room: each frame of a stack has as much as its function needs, and so has the instruction that comes next.
use Rattle.std.specs.Prelude.{◌≡◌, ◌+◌, ◌≤◌, ℕ, suc, List, [], ◌∷◌, length, Some, if◌then◌else◌, ⊤}
use Rattle.w_syntax.specs.declared.instructions.Instr.{Instr}
use Rattle.w_syntax.specs.declared.instructions.Instr.TheVariants as flat
use Rattle.w_syntax.specs.declared.module.Module.{Module}
use Rattle.w_segment.specs.declared.entry.Stage.TheVariants.{Body}
use Rattle.w_segment.specs.Shape.{Level, Label, Frame, Capacity, Shape, SameParts, Grown, below_all, height}
use Rattle.w_reduce.specs.Room.{most_operands, most_labels, gives_one}
use Rattle.w_stands.specs.Code.{instr_of}

-- ## Frames

-- each frame has room for the operands and labels of its function above what stands below it; the innermost one is of f
abbrev pub FramesFit : Module → Capacity → ℕ → List Level → Type 0
FramesFit m c f [] = ⊤
FramesFit m c f (Label below n t ∷ ls) = FramesFit m c f ls
FramesFit m c f (Frame below n locals caller back ∷ ls) =
    (length below + below_all ls + most_operands m f ≤ c.operands) × (suc (length ls) + most_labels m f ≤ c.levels) × FramesFit m c caller ls

abbrev pub HasRoom : Module → Shape → Type 0
HasRoom m s = FramesFit m s.capacity s.func s.levels

-- the stack is the same, with no less room
pub record Roomier (s s' : Shape) : Type 0 where
  pub same : SameParts s s'
  pub grown : Grown s.capacity s'.capacity

-- ## The next instruction

-- how many operands more it leaves than there are before it, where it takes none
abbrev pub operands_of : Instr → ℕ
operands_of (flat.Plain o) = if gives_one o then 1 else 0
operands_of i = 0

-- how many labels it enters
abbrev pub labels_of : Instr → ℕ
labels_of (flat.Block k b z) = 1
labels_of (flat.If b y z) = 1
labels_of i = 0

-- there is room for them
pub record IsRoomy (i : Instr) (s : Shape) : Type 0 where
  pub operands : height s + operands_of i ≤ s.capacity.operands
  pub labels : length s.levels + labels_of i ≤ s.capacity.levels

-- there is room for what comes next
abbrev pub NextFits : Module → Shape → Type 0
NextFits m s = (i : Instr) → s.stage ≡ Body → instr_of m s.func s.place ≡ Some i → IsRoomy i s
