-- A segment's stack as contracts see it (Core, execution, runtime structure: stack): the levels, from the innermost outwards, each
-- with the operands below it; the operands inside, the topmost first; where it stands; and its capacity.
use Rattle.std.specs.Prelude.{◌≡◌, ℕ, zero, suc, ◌+◌, ◌≤◌, List, [], ◌∷◌, length, Bool, true, false, Option, Some, None}
use Rattle.w_types.specs.declared.value.Value.{Value}
use Rattle.w_segment.specs.declared.entry.Stage.{Stage}
use Rattle.w_segment.specs.declared.entry.Stage.TheVariants.{Fresh}

-- what stands around the operands inside
pub data Level : Type 0 where
  -- a label (Core: label_n{instr*}): how many operands a branch keeps, and the place where it leads
  Label : (below : List Value) (arity target : ℕ) → Level
  -- a frame (Core: frame_n{F}): how many results it gives, its locals, which function called it, and the place where that goes on; a
  -- local that was never set has no value
  Frame : (below : List Value) (arity : ℕ) (locals : List (Option Value)) (caller back : ℕ) → Level

-- how many operands, levels and locals fit with no memory taken; only a reserve changes them
pub record Capacity : Type 0 where
  pub operands : ℕ
  pub levels : ℕ
  pub locals : ℕ

pub record Shape : Type 0 where
  pub levels : List Level
  pub operands : List Value
  pub func : ℕ
  pub place : ℕ
  pub stage : Stage
  pub capacity : Capacity

abbrev pub no_capacity : Capacity
no_capacity = record { operands = 0; levels = 0; locals = 0 }

-- nothing of the function has run
abbrev pub fresh_shape : ℕ → Capacity → Shape
fresh_shape f c = record { levels = []; operands = []; func = f; place = 0; stage = Fresh; capacity = c }

-- ## What is there

abbrev pub is_none : List Level → Bool
is_none [] = true
is_none (l ∷ ls) = false

-- whether the innermost level is a label
abbrev pub is_in_label : List Level → Bool
is_in_label [] = false
is_in_label (Label below n t ∷ ls) = true
is_in_label (Frame below n locals f p ∷ ls) = false

-- where a branch to the innermost level leads, where that is a label
abbrev pub target_of : List Level → ℕ
target_of [] = 0
target_of (Label below n t ∷ ls) = t
target_of (Frame below n locals f p ∷ ls) = 0

abbrev pub frames_of : List Level → ℕ
frames_of [] = 0
frames_of (Label below n t ∷ ls) = frames_of ls
frames_of (Frame below n locals f p ∷ ls) = suc (frames_of ls)

abbrev pub labels_of : List Level → ℕ
labels_of [] = 0
labels_of (Label below n t ∷ ls) = suc (labels_of ls)
labels_of (Frame below n locals f p ∷ ls) = labels_of ls

-- the locals of the innermost frame
abbrev pub locals_of : List Level → List (Option Value)
locals_of [] = []
locals_of (Label below n t ∷ ls) = locals_of ls
locals_of (Frame below n locals f p ∷ ls) = locals

-- where a branch goes: what stands below its label and around it
pub record Target : Type 0 where
  pub below : List Value
  pub arity : ℕ
  pub target : ℕ
  pub outer : List Level

-- the label so many levels out; a branch leaves no frame
abbrev pub label_at : ℕ → List Level → Option Target
label_at l [] = None
label_at zero (Label below n t ∷ ls) = Some (record { below = below; arity = n; target = t; outer = ls })
label_at (suc l) (Label below n t ∷ ls) = label_at l ls
label_at l (Frame below n locals f p ∷ ls) = None

-- where a return goes: what stands below the innermost frame and around it
pub record ReturnTarget : Type 0 where
  pub below : List Value
  pub arity : ℕ
  pub caller : ℕ
  pub back : ℕ
  pub outer : List Level

abbrev pub frame_at : List Level → Option ReturnTarget
frame_at [] = None
frame_at (Label below n t ∷ ls) = frame_at ls
frame_at (Frame below n locals f p ∷ ls) = Some (record { below = below; arity = n; caller = f; back = p; outer = ls })

-- there is such a label in the innermost frame, and its arity of operands
abbrev pub IsAt : ℕ → Shape → Type 0
IsAt l s = (t : Target) × (label_at l s.levels ≡ Some t) × (t.arity ≤ length s.operands)

-- there is a frame, and so many operands
abbrev pub HasFrame : ℕ → Shape → Type 0
HasFrame n s = (c : ReturnTarget) × (frame_at s.levels ≡ Some c) × (n ≤ length s.operands)

-- there is a frame, and its arity of operands
abbrev pub IsIn : Shape → Type 0
IsIn s = (c : ReturnTarget) × (frame_at s.levels ≡ Some c) × (c.arity ≤ length s.operands)

-- ## What it takes of its capacity

-- how many operands stand below levels
abbrev pub below_all : List Level → ℕ
below_all [] = 0
below_all (Label below n t ∷ ls) = length below + below_all ls
below_all (Frame below n locals f p ∷ ls) = length below + below_all ls

-- how many locals all frames have
abbrev pub locals_all : List Level → ℕ
locals_all [] = 0
locals_all (Label below n t ∷ ls) = locals_all ls
locals_all (Frame below n locals f p ∷ ls) = length locals + locals_all ls

-- how many operands there are
abbrev pub height : Shape → ℕ
height s = length s.operands + below_all s.levels

-- no capacity is lower
pub record Grown (c c' : Capacity) : Type 0 where
  pub operands : c.operands ≤ c'.operands
  pub levels : c.levels ≤ c'.levels
  pub locals : c.locals ≤ c'.locals

-- so many more operands, levels and locals fit
pub record Fits (v l k : ℕ) (s : Shape) : Type 0 where
  pub operands : height s + v ≤ s.capacity.operands
  pub levels : length s.levels + l ≤ s.capacity.levels
  pub locals : locals_all s.levels + k ≤ s.capacity.locals

-- all but the capacity is the same
pub record SameParts (s s' : Shape) : Type 0 where
  pub levels : s'.levels ≡ s.levels
  pub operands : s'.operands ≡ s.operands
  pub func : s'.func ≡ s.func
  pub place : s'.place ≡ s.place
  pub stage : s'.stage ≡ s.stage
