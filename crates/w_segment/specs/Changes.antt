-- How a stack changes (Core, execution: what each reduction rule does to operands, labels and frames).
use Rattle.std.specs.Prelude.{ℕ, ◌-◌, List, [], ◌∷◌, ◌++◌, take, drop, map, reverse, replicate, slice_set, Option, Some, None}
use Rattle.w_types.specs.declared.value.Value.{Value}
use Rattle.w_segment.specs.declared.entry.Stage.{Stage}
use Rattle.w_segment.specs.declared.entry.Stage.TheVariants.{Body}
use Rattle.w_segment.specs.Shape.{Level, Label, Frame, Shape, Target, ReturnTarget}

-- ## Operands

abbrev pub pushed : Value → Shape → Shape
pushed v s = record s { operands = v ∷ s.operands }

-- the first of these operands is pushed first
abbrev pub pushed_all : List Value → Shape → Shape
pushed_all vs s = record s { operands = reverse vs ++ s.operands }

abbrev pub popped : Shape → Shape
popped s = record s { operands = drop 1 s.operands }

abbrev pub discarded : ℕ → Shape → Shape
discarded n s = record s { operands = drop n s.operands }

-- ## Levels

-- a label around the topmost operands
abbrev pub labelled : ℕ → ℕ → ℕ → Shape → Shape
labelled params n t s = record s { levels = Label (drop params s.operands) n t ∷ s.levels; operands = take params s.operands }

-- the locals of a frame: its parameters, and then locals that are not set
abbrev pub first_locals : List Value → ℕ → List (Option Value)
first_locals vs unset = map (λ (v : Value). Some v) vs ++ replicate unset None

-- a frame of function f, of which the topmost operands become the first locals
abbrev pub framed : ℕ → ℕ → ℕ → ℕ → Shape → Shape
framed f params locals n s = record {
  levels = Frame (drop params s.operands) n (first_locals (reverse (take params s.operands)) (locals - params)) s.func s.place ∷ s.levels;
  operands = [];
  func = f;
  place = 0;
  stage = Body;
  capacity = s.capacity;
}

abbrev pub left_at : List Level → Shape → Shape
left_at [] s = s
left_at (Label below n t ∷ ls) s = record s { levels = ls; operands = s.operands ++ below }
left_at (Frame below n locals f p ∷ ls) s =
    record s { levels = ls; operands = s.operands ++ below; func = f; place = p }

-- without the innermost level
abbrev pub left : Shape → Shape
left s = left_at s.levels s

-- where a branch leads
abbrev pub branched : Target → Shape → Shape
branched t s = record s { levels = t.outer; operands = take t.arity s.operands ++ t.below; place = t.target }

-- without the innermost frame, of which the n topmost operands are kept
abbrev pub returned : ℕ → ReturnTarget → Shape → Shape
returned n c s = record s { levels = c.outer; operands = take n s.operands ++ c.below; func = c.caller; place = c.back }

-- ## Locals and places

abbrev pub with_local : ℕ → Value → List Level → List Level
with_local x v [] = []
with_local x v (Label below n t ∷ ls) = Label below n t ∷ with_local x v ls
with_local x v (Frame below n locals f p ∷ ls) = Frame below n (slice_set locals x (Some v)) f p ∷ ls

-- the local x of the innermost frame is v
abbrev pub with_locals : ℕ → Value → Shape → Shape
with_locals x v s = record s { levels = with_local x v s.levels }

-- more locals behind those of the innermost frame
abbrev pub with_more_in : List (Option Value) → List Level → List Level
with_more_in ks [] = []
with_more_in ks (Label below n t ∷ ls) = Label below n t ∷ with_more_in ks ls
with_more_in ks (Frame below n locals f p ∷ ls) = Frame below n (locals ++ ks) f p ∷ ls

abbrev pub with_more : List (Option Value) → Shape → Shape
with_more ks s = record s { levels = with_more_in ks s.levels }

abbrev pub moved : ℕ → Shape → Shape
moved p s = record s { place = p }

abbrev pub staged : Stage → Shape → Shape
staged x s = record s { stage = x }
