-- The flat lists of a stack, read as its shape. Marks stand innermost first here.
use Rattle.std.specs.Prelude.{◌≡◌, ℕ, suc, ◌≤◌, List, [], ◌∷◌, length, take, drop, reverse, Option}
use Rattle.w_types.specs.declared.value.Value.{Value}
use Rattle.w_segment.specs.declared.stack.Mark.{Mark}
use Rattle.w_segment.specs.declared.stack.Mark.TheVariants as mark
use Rattle.w_segment.specs.Shape.{Level, Label, Frame}

-- how many operands stand below those inside
abbrev pub base : List Mark → ℕ
base [] = 0
base (mark.Label n t b ∷ es) = b
base (mark.Frame n f p b k outer ∷ es) = b

-- the operands inside, the topmost first
abbrev pub own : List Mark → List Value → List Value
own es vs = reverse (drop (base es) vs)

-- the levels of marks with all operands and locals, where the locals of the innermost frame begin at k
abbrev pub levels_of : List Mark → List Value → List (Option Value) → ℕ → List Level
levels_of [] vs ls k = []
levels_of (mark.Label n t b ∷ es) vs ls k = Label (own es (take b vs)) n t ∷ levels_of es (take b vs) ls k
levels_of (mark.Frame n f p b j outer ∷ es) vs ls k = Frame (own es (take b vs)) n (drop k ls) f p ∷ levels_of es (take b vs) (take k ls) j

-- no level's operands or locals end below where they begin, and there are none outside
abbrev pub Ordered : List Mark → ℕ → ℕ → ℕ → Type 0
Ordered [] v l k = l ≡ 0
Ordered (mark.Label n t b ∷ es) v l k = (b ≤ v) × (base es ≤ b) × Ordered es b l k
Ordered (mark.Frame n f p b j outer ∷ es) v l k = (b ≤ v) × (base es ≤ b) × (k ≤ l) × Ordered es b k j

abbrev pub frames_in : List Mark → ℕ
frames_in [] = 0
frames_in (mark.Label n t b ∷ es) = frames_in es
frames_in (mark.Frame n f p b k outer ∷ es) = suc (frames_in es)

-- how many marks there are up to and with the innermost frame's, 0 where there is none
abbrev pub inner_in : List Mark → ℕ
inner_in [] = 0
inner_in (mark.Label n t b ∷ es) = inner_in es
inner_in (mark.Frame n f p b k outer ∷ es) = suc (length es)

-- each frame's mark says this of the marks outside it
abbrev pub Nested : List Mark → Type 0
Nested [] = Unit {0}
Nested (mark.Label n t b ∷ es) = Nested es
Nested (mark.Frame n f p b k outer ∷ es) = (outer ≡ inner_in es) × Nested es
