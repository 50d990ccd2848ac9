-- Terms and contexts (Core, execution, runtime structure).
use Rattle.std.specs.Prelude.{ℕ, suc, List, [], ◌∷◌, ◌++◌, Option, Some, slice_set}
use Rattle.lists.specs.Rows.{Row, ε, ◌⧺◌}
use Rattle.w_syntax.specs.Code.{Code, Done}
use Rattle.w_syntax.specs.declared.instructions.Clause.{Clause}
use Rattle.w_reduce.specs.Values.{Val}

-- Instructions that no module spells.
pub data Administrative : Type 0 where
  -- invoke the function of this address
  Invoke : (address : ℕ) → Administrative
  -- br l, which a caught suspend leaves
  Branch : (label : ℕ) → Administrative

-- What comes next in a sequence: administrative instructions, and then code.
pub record Rest : Type 0 where
  pub ahead : List Administrative
  pub code : Code

abbrev pub rest_of : Code → Rest
rest_of code = record { ahead = []; code = code }

-- What stands directly around a place of a term: values to its left, the rest of the sequence to its right, and a label, a frame or
-- a handle.
pub data Layer : Type 0 where
  -- below label_arity{again} [ ] end rest
  Label : (below : Row Val) (arity : ℕ) (again rest : Code) → Layer
  -- below frame_arity{locals} [ ] end rest; which function of the module's own it is of, which no rule looks at; a local that was never
  -- set holds nothing
  Frame : (below : Row Val) (arity function : ℕ) (locals : List (Option Val)) (rest : Rest) → Layer
  -- below handle{clauses} [ ] end rest (stack-switching explainer, execution)
  Handle : (below : Row Val) (clauses : List Clause) (rest : Code) → Layer

-- A context with one hole: its layers from the hole outwards.
abbrev pub Context : Type 0
Context = List Layer

-- A term: values and the rest of a sequence, in a context.
pub record Term : Type 0 where
  pub around : Context
  pub operands : Row Val
  pub rest : Rest

-- a term put into a context
abbrev pub in_context : Context → Term → Term
in_context e t = record t { around = t.around ++ e }

-- ## Continuations (stack-switching explainer, execution)

-- A context with one hole, as the term around it: the hole stands between its operands and what comes next; and how many values it
-- takes.
pub record Continuation : Type 0 where
  pub takes : ℕ
  pub term : Term

-- with values put at the hole
abbrev pub filled : Term → Row Val → Term
filled t vs = record t { operands = t.operands ⧺ vs }

-- [ ] (invoke a), which takes n values
abbrev pub fresh_continuation : ℕ → ℕ → Continuation
fresh_continuation a n = record { takes = n; term = record { around = []; operands = ε; rest = record { ahead = Invoke a ∷ []; code = Done } } }

-- ## The locals: those of the innermost frame

abbrev pub locals_of : Context → List (Option Val)
locals_of [] = []
locals_of (Label below n again rest ∷ e) = locals_of e
locals_of (Frame below n f locals rest ∷ e) = locals
locals_of (Handle below hs rest ∷ e) = []

abbrev pub with_local : ℕ → Val → Context → Context
with_local x v [] = []
with_local x v (Label below n again rest ∷ e) = Label below n again rest ∷ with_local x v e
with_local x v (Frame below n f locals rest ∷ e) = Frame below n f (slice_set locals x (Some v)) rest ∷ e
with_local x v (Handle below hs rest ∷ e) = Handle below hs rest ∷ e

-- ## Counting

-- how many frames, and how many handles, stand around the hole
abbrev pub frames : Context → ℕ
frames [] = 0
frames (Label below n again rest ∷ e) = frames e
frames (Frame below n f locals rest ∷ e) = suc (frames e)
frames (Handle below hs rest ∷ e) = frames e

abbrev pub handles : Context → ℕ
handles [] = 0
handles (Label below n again rest ∷ e) = handles e
handles (Frame below n f locals rest ∷ e) = handles e
handles (Handle below hs rest ∷ e) = suc (handles e)
