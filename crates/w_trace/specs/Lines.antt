-- A trace as text, and which line of a text is wrong.
use Rattle.std.specs.Prelude.{◌≡◌, ℕ, ◌<◌, ◌^◌, List, [], ◌∷◌, ◌++◌, codes, decimal, take, map, ⊤, slice_get}
use Rattle.std.specs.List.{flat_map}
use Rattle.w_reduce.specs.declared.trap.Trap.{Trap}
use Rattle.w_reduce.specs.declared.trap.Trap.TheVariants as trap
use Rattle.w_words.specs.Words.{Word, Each, spaced}
use Rattle.w_words.specs.Pieces.{IsWrongLine}
use Rattle.w_trace.specs.declared.event.Event.{Event}
use Rattle.w_trace.specs.declared.event.EventKind.{EventKind}
use Rattle.w_trace.specs.declared.event.EventKind.TheVariants.{New, Bind, Resume, Suspend, Switch, Exit}
use Rattle.w_trace.specs.declared.line.Line.{Line}
use Rattle.w_trace.specs.declared.line.Line.TheVariants as line
use Rattle.w_trace.specs.declared.trace.Ending.{Ending}
use Rattle.w_trace.specs.declared.trace.Ending.TheVariants as ending
use Rattle.w_trace.specs.declared.trace.Trace.{Trace}
use Rattle.w_trace.specs.Endings.{ending_text}

-- ## Lines

-- an event's name
abbrev pub kind_name : EventKind → Word
kind_name (New b) = codes "new"
kind_name (Bind a b) = codes "bind"
kind_name (Resume a) = codes "resume"
kind_name (Suspend x b) = codes "suspend"
kind_name (Switch a x b) = codes "switch"
kind_name Exit = codes "exit"

-- continuations by their addresses, tags by their indices
abbrev pub kind_numbers : EventKind → List ℕ
kind_numbers (New b) = b ∷ []
kind_numbers (Bind a b) = a ∷ b ∷ []
kind_numbers (Resume a) = a ∷ []
kind_numbers (Suspend x b) = x ∷ b ∷ []
kind_numbers (Switch a x b) = a ∷ x ∷ b ∷ []
kind_numbers Exit = []

abbrev pub event_words : Event → List Word
event_words e = decimal e.step ∷ kind_name e.kind ∷ map decimal (kind_numbers e.kind)

-- an event, or how many reductions the run took and how it ended
abbrev pub line_text : Line → List ℕ
line_text (line.Event e) = spaced (event_words e)
line_text (line.End n end) = spaced (codes "end" ∷ decimal n ∷ ending_text end ∷ [])

abbrev pub line_bytes : Line → List ℕ
line_bytes l = line_text l ++ 10 ∷ []

abbrev pub lines_of : Trace → List Line
lines_of x = map line.Event x.events ++ line.End x.taken x.ending ∷ []

abbrev pub text_of : Trace → List ℕ
text_of x = flat_map line_bytes (lines_of x)

-- ## Ranges

abbrev pub Fits64 : ℕ → Type 0
Fits64 n = n < 2 ^ 64

abbrev pub Fits32 : ℕ → Type 0
Fits32 n = n < 2 ^ 32

abbrev pub KindFits : EventKind → Type 0
KindFits (New b) = Fits64 b
KindFits (Bind a b) = Fits64 a × Fits64 b
KindFits (Resume a) = Fits64 a
KindFits (Suspend x b) = Fits32 x × Fits64 b
KindFits (Switch a x b) = Fits64 a × Fits32 x × Fits64 b
KindFits Exit = ⊤

abbrev pub TrapFits : Trap → Type 0
TrapFits (trap.Unhandled x) = Fits32 x
TrapFits t = ⊤

abbrev pub EndingFits : Ending → Type 0
EndingFits (ending.Trapped t) = TrapFits t
EndingFits end = ⊤

abbrev pub LineFits : Line → Type 0
LineFits (line.Event e) = Fits64 e.step × KindFits e.kind
LineFits (line.End n end) = Fits64 n × EndingFits end

-- ## Texts

-- the bytes are the text of x, whose numbers are in their ranges
pub record IsTextOf (x : Trace) (bytes : List ℕ) : Type 0 where
  pub fits : Each LineFits (lines_of x)
  pub same : bytes ≡ text_of x

-- they are the text of some trace
abbrev pub IsText : List ℕ → Type 0
IsText bytes = (x : Trace) × IsTextOf x bytes

-- l is the least number such that no text of a trace begins with lines 0 to l
abbrev pub IsWrongAt : List ℕ → ℕ → Type 0
IsWrongAt = IsWrongLine IsText

-- l is the first line in which two traces differ
pub record DifferAt (x y : Trace) (l : ℕ) : Type 0 where
  pub before : take l (lines_of x) ≡ take l (lines_of y)
  pub here : slice_get (lines_of x) l ≡ slice_get (lines_of y) l → ⊥

-- ## Laws

-- a text is that of one trace
abbrev pub OneTrace : Type 0
OneTrace = (x y : Trace) (bytes : List ℕ) → IsTextOf x bytes → IsTextOf y bytes → x ≡ y

-- a text is wrong at no line
abbrev pub TracesAreRight : Type 0
TracesAreRight = (bytes : List ℕ) (l : ℕ) → IsText bytes → IsWrongAt bytes l → ⊥
