-- What an attempt at a reduction that prints nothing comes to.
use Rattle.std.specs.Prelude.{◌≡◌, ◌⊎◌, Bool, true, false, List, [], Option, Some, None, slice_get, Result, Ok, Err}
use Rattle.std.specs.declared.alloc.AllocError.{AllocError}
use Rattle.w_syntax.specs.declared.instructions.ControlOp.TheVariants as control
use Rattle.w_syntax.specs.declared.instructions.Op.TheVariants as op
use Rattle.w_syntax.specs.declared.instructions.Instr.{Instr}
use Rattle.w_syntax.specs.declared.instructions.Instr.TheVariants as flat
use Rattle.w_syntax.specs.declared.packed.ShortControlOp.TheVariants as short
use Rattle.w_syntax.specs.declared.packed.PackedInstr.{PackedInstr}
use Rattle.w_syntax.specs.declared.packed.PackedInstr.TheVariants as packed
use Rattle.w_syntax.specs.declared.module.Module.{Module}
use Rattle.w_segment.specs.Shape.{Shape}
use Rattle.w_tables.specs.Store as instances
use Rattle.w_tables.specs.declared.entries.FuncEntry.{FuncEntry}
use Rattle.w_tables.specs.declared.entries.FuncEntry.TheVariants as entry
use Rattle.w_reduce.specs.declared.trap.Trap.{Trap}
use Rattle.w_stands.specs.declared.did.Did.{Did}
use Rattle.w_stands.specs.declared.did.Did.TheVariants as did
use Rattle.w_stands.specs.Room.{Roomier}
use Rattle.w_stands.specs.Steps.{Follows, Stays}
use Rattle.w_plain.specs.declared.progress.Progress.{Progress}
use Rattle.w_plain.specs.declared.progress.Progress.TheVariants as progress
use Rattle.w_syntax.specs.Packed.{unpacked}
use Rattle.w_plain.specs.Plainness.{calls_at}
use Rattle.w_plain.specs.Stepped.{Takes}

-- the attempt at a reduction that came to this
abbrev pub attempt_of : Result Did AllocError → Progress
attempt_of (Ok did.Went) = progress.Went
attempt_of (Ok (did.Trapped t)) = progress.Trapped
attempt_of (Err e) = progress.NoRoom

-- its reduction was taken, or all is as it was but for room: it traps, or there was no room for it; where none was attempted nothing changed
abbrev pub Attempted : Progress → Module → instances.Store → Shape → instances.Store → Shape → Type 0
Attempted progress.Went m u s u' s' = Takes did.Went m [] u s u' s'
Attempted progress.Moved m u s u' s' = Takes did.Went m [] u s u' s'
Attempted progress.Entered m u s u' s' = Takes did.Went m [] u s u' s'
Attempted progress.Trapped m u s u' s' = (u' ≡ u) × Roomier s s' × ((t : Trap) × Follows (did.Trapped t) m [] u s u s)
Attempted progress.NotAttempted m u s u' s' = (u' ≡ u) × (s' ≡ s)
Attempted progress.NoRoom m u s u' s' = (u' ≡ u) × Roomier s s'

-- its reduction was taken, and no function was called
abbrev pub goes_on : Progress → Bool
goes_on progress.Went = true
goes_on progress.Moved = true
goes_on a = false

-- the attempt at a reduction that came to this, behind which the stack may stand elsewhere
abbrev pub AttemptsMove : Did → Progress → Shape → Shape → Type 0
AttemptsMove d a s s' = ((a ≡ attempt_of (Ok d)) × (a ≡ progress.Went → Stays s s')) ⊎ ((a ≡ progress.Moved) × (d ≡ did.Went))

-- ## When one is made

abbrev pub was_made : Progress → Bool
was_made progress.NotAttempted = false
was_made a = true

abbrev pub is_own : Option FuncEntry → Bool
is_own (Some (entry.Own f)) = true
is_own o = false

abbrev pub is_branch_table : Instr → Bool
is_branch_table (flat.Plain (op.Control (control.BrTable labels last))) = true
is_branch_table i = false

-- At an instruction that is common or a branch, and at the call, or the tail call, of a function of the module by its index.
abbrev pub is_attempted : List FuncEntry → PackedInstr → Bool
is_attempted fs (packed.Control (short.Call f)) = is_own (slice_get fs f)
is_attempted fs (packed.Control (short.CallIndirect t k)) = false
is_attempted fs (packed.Control (short.CallRef t)) = false
is_attempted fs (packed.Control (short.ReturnCall f)) = is_own (slice_get fs f)
is_attempted fs (packed.Control (short.ReturnCallIndirect t k)) = false
is_attempted fs (packed.Control (short.ReturnCallRef t)) = false
is_attempted fs (packed.Boxed i) = is_branch_table i.value
is_attempted fs (packed.Table o) = false
is_attempted fs (packed.Memory o) = false
is_attempted fs (packed.Reference o) = false
is_attempted fs (packed.Switching o) = false
is_attempted fs p = true

-- and where a sequence ends
abbrev pub is_attempted_at : List FuncEntry → Option PackedInstr → Bool
is_attempted_at fs None = true
is_attempted_at fs (Some p) = is_attempted fs p

-- ## At an instruction

-- It came to this, was made exactly where it is attempted, where it only went on nothing is called, and the stack stays where it didn't move.
pub record IsAttempt (result : Progress) (p : PackedInstr) (m : Module) (u : instances.Store) (s : Shape) (u' : instances.Store) (s' : Shape) : Type 0 where
  pub step : Attempted result m u s u' s'
  pub made : was_made result ≡ is_attempted u.functions p
  pub went : goes_on result ≡ true → calls_at (Some (unpacked p)) ≡ false
  pub stays : result ≡ progress.Went → Stays s s'
