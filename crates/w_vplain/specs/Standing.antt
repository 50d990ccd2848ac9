-- What a checker stands for.
use Rattle.std.specs.Prelude.{◌≡◌, ◌≤◌, ◌↔◌, ℕ, max, length, Bool, true, false, IsTrue, IsFalse, List, [], ◌∷◌, reverse, Option, Some, None, Result, IsErr, OnErr, is_some, if◌then◌else◌}
use Rattle.w_types.specs.declared.types.ValType.{ValType}
use Rattle.lists.specs.Rows.{Row}
use Rattle.w_syntax.specs.declared.instructions.Instr.TheVariants as flat
use Rattle.w_syntax.specs.declared.instructions.Op.{Op}
use Rattle.w_canon.specs.declared.entry.Entry.{Entry}
use Rattle.w_rules.specs.View.{AreClasses}
use Rattle.w_flow.specs.Flow.{◌>>=◌}
use Rattle.w_flow.specs.View.{flow_view}
use Rattle.w_rules.specs.Context.{Context}
use Rattle.w_rules.specs.Spaces.{in_body}
use Rattle.w_rules.specs.View.{context_in}
use Rattle.w_vplain.specs.Frames.{Frame, Knows}
use Rattle.w_vplain.specs.Prefixes.{Prefix, IsDerivable, follow}
use Rattle.w_vplain.specs.Measures.{tally, CountsFor, peak_of, depth_of}
use Rattle.w_locals.specs.Locals.{first_set, outer_sets}
use Rattle.w_vplain.specs.Row.{IsRow, added_by, move_next, raised_to}
use Rattle.w_vplain.specs.View.{frame_view, frames_with}
use Rattle.w_vplain.specs.declared.checker.Checker.{Checker}
use Rattle.w_steps.specs.declared.frame.Frame as code
use Rattle.w_vplain.specs.declared.moves.Move.{Move}

-- the context that a checker types in
abbrev pub context_for : Checker → Context
context_for c = in_body (context_in c.setting.cx.now) c.locals.types c.setting.results.types.now

-- the entries of the types
abbrev pub classes_for : Checker → List Entry
classes_for c = c.setting.cx.now.classes.now

-- the classes are those of the module's types
abbrev pub KnowsClasses : Checker → Type 0
KnowsClasses c = AreClasses (context_for c).types (classes_for c)

-- the innermost block, and those around it
abbrev pub top_of : Checker → Frame
top_of c = frame_view c.top (first_set c.locals.sets)

abbrev pub outer_of : Checker → List Frame
outer_of c = frames_with (reverse c.outer.items) (outer_sets c.locals.sets)

-- the open blocks, the innermost first; none after the end of the body
abbrev pub frames_of : Checker → List Frame
frames_of c = if c.ended then [] else top_of c ∷ outer_of c

-- none where the answer was false
abbrev pub frames_of_derived : Checker → Option (List Frame)
frames_of_derived c = if c.refused then None else Some (frames_of c)

-- the number of operands of blocks
abbrev pub total_of : List code.Frame → Option ℕ
total_of [] = Some 0
total_of (f ∷ fs) = tally (flow_view f.flow).any (flow_view f.flow).operands (total_of fs)

-- each block has the number of operands around it
abbrev pub bases_from : List code.Frame → Type 0
bases_from [] = Unit {0}
bases_from (f ∷ fs) = (f.base ≡ total_of fs) × bases_from fs

abbrev pub HasBases : Checker → Type 0
HasBases c = bases_from (c.top ∷ reverse c.outer.items)

-- no more blocks are open than were counted
abbrev pub IsDeep : Checker → Type 0
IsDeep c = length (frames_of c) ≤ c.depth

-- what is counted, as long as the answer was true
pub record Counts (c : Checker) (s : List Bool) (w : Prefix) : Type 0 where
  pub frames : CountsFor (context_for c) s (frames_of c) w
  pub peak : c.peak ≡ peak_of (context_for c) s w
  pub bases : HasBases c
  pub depth : c.depth ≡ depth_of w
  pub deep : IsDeep c

abbrev pub counts_if : Bool → Type 0 → Type 0
counts_if true P = Unit {0}
counts_if false P = P

-- It stands for the sequence, where these locals are set at its beginning. After a false answer it stands for each sequence that the
-- rules don't derive.
pub record StandsFor (c : Checker) (s : List Bool) (w : Prefix) : Type 0 where
  pub classes : KnowsClasses c
  pub knows : Knows (context_for c) s (frames_of_derived c) w
  pub counts : counts_if c.refused (Counts c s w)

-- ## Calls

-- the checker types the same body
pub record IsSameBody (old new : Checker) : Type 0 where
  pub context : context_for new ≡ context_for old
  pub classes : classes_for new ≡ classes_for old

-- and what it counts stays as it was
pub record IsUncounted (old new : Checker) : Type 0 where
  pub body : IsSameBody old new
  pub peak : new.peak ≡ old.peak
  pub depth : new.depth ≡ old.depth

-- out of memory once, it is so at each later call
pub record StaysOutOfMemory {E : Type 0} (old : Checker) (result : Result Bool E) (new : Checker) : Type 0 where
  pub kept : IsTrue old.out_of_memory → IsErr result
  pub begun : OnErr result (IsTrue new.out_of_memory)

-- Of each sequence that the old checker stood for, the new one stands for what follows it, and the answer is whether the rules derive
-- that.
abbrev pub Answers : Checker → Checker → (Prefix → Prefix) → Bool → Type 0
Answers old new next answer = (s : List Bool) (w : Prefix) → StandsFor old s w →
    StandsFor new s (next w) × (IsTrue answer ↔ IsDerivable (context_for old) s (next w))

-- the same of each instruction that has this row where the sequence is derived
abbrev pub AnswersRow : Checker → Checker → Row ValType → Row ValType → Option ℕ → Bool → Type 0
AnswersRow old new ins outs raise answer = (s : List Bool) (w : Prefix) (o : Op) → StandsFor old s w →
    (IsDerivable (context_for old) s w → IsRow (context_for old) s w o ins outs raise) →
    StandsFor new s (follow (flat.Plain o) w) × (IsTrue answer ↔ IsDerivable (context_for old) s (follow (flat.Plain o) w))

-- the answer is false, and the new checker stands for whatever is not derived
pub record Refuses (old new : Checker) (answer : Bool) : Type 0 where
  pub is_false : IsFalse answer
  pub stands : (s : List Bool) (w v : Prefix) → StandsFor old s w → (IsDerivable (context_for old) s v → ⊥) → StandsFor new s v

-- ## What a call does to the checker's data

-- the frames after it, or none where the answer is false
abbrev pub Leads : Option (List Frame) → Bool → List Frame → Type 0
Leads o applies fs = o ≡ (if applies then Some fs else None)

-- the place that was reached is counted, and what the call added there
pub record IsCounted (old new : Checker) (added : ℕ) : Type 0 where
  pub depth : IsDeep old → IsDeep new × (new.depth ≡ max old.depth (length (frames_of new)))
  pub peak : HasBases old → HasBases new × (new.peak ≡ raised_to old.peak added (frames_of new))

-- what a call came to
pub record IsCall (old new : Checker) (m : Move) (applies : Bool) : Type 0 where
  pub leads : frames_of_derived new ≡ (frames_of_derived old >>= move_next (classes_for old) (context_for old) m)
  pub answer : applies ≡ is_some (frames_of_derived new)
  pub counted : IsTrue applies → IsFalse old.refused × IsCounted old new (added_by m (frames_of old))
