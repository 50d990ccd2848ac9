-- What calls do with the run that a handle holds, or with none.
use Rattle.std.specs.Prelude.{◌≡◌, ◌+◌, ◌<◌, ◌≤◌, ℕ, List, [], ◌++◌, length, take, drop, min, Option, Some, None, Result, Ok, Err}
use Rattle.w_syntax.specs.Spells.{Spells}
use Rattle.w_syntax.specs.declared.module.Module.{Module}
use Rattle.w_rules.specs.Limits.{Within}
use Rattle.w_rules.specs.Valid.{Valid}
use Rattle.w_reduce.specs.Program.{Program}
use Rattle.w_reduce.specs.Run.{Run}
use Rattle.w_reduce.specs.Store.{Store, made, consumed, live}
use Rattle.w_reduce.specs.Terms.{Term}
use Rattle.w_trace.specs.Endings.{run_limit_text}
use Rattle.w_configuration.specs.declared.stop.RunStop.{RunStop}
use Rattle.w_configuration.specs.declared.stop.RunStop.TheVariants as run_stop
use Rattle.w_machine.specs.Beginning.{Begins}
use Rattle.w_machine.specs.Position.{Position, Runs, most_reductions}
use Rattle.replies.specs.Answer.{Reply, OnBytes, BytesGive, end_reply, input_limit, limit, running, trapped}
use Rattle.replies.specs.declared.status.Status.{Status}
use Rattle.replies.specs.declared.status.Status.TheVariants as status
use Rattle.runs.specs.Running.{BeginsRunOf, HasNoRun}
use Rattle.handing.specs.Handed.{Handed, HandsRefusal, Untouched}
use Rattle.handles.specs.declared.held_run.HeldRun.{HeldRun}
use Rattle.handles.specs.declared.stepping.NoStep.{NoStep}
use Rattle.handles.specs.declared.stepping.NoStep.TheVariants.{NoRun, TooManySteps}
use Rattle.handles.specs.declared.stepping.Counts.{Counts}

-- Below, before and now are what a buffer held and holds, and told is the length that was told of a text. Where a handle holds a run, the
-- command's words for it are those for the run of a module.

-- ## Begin

-- bytes are not too many and spell a module that is valid and has a run, at whose begin the machine stands
pub record BeginsRunOfBytes (bytes : List ℕ) (position : Position) : Type 0 where
  pub short : length bytes ≤ input_limit
  pub m : Module
  pub spells : Spells bytes m
  pub within : Within m
  pub valid : Valid m
  pub begins : BeginsRunOf m position

-- why bytes give no run
abbrev pub HasNoRunOnBytes : List ℕ → Reply → Type 0
HasNoRunOnBytes = OnBytes (BytesGive (HasNoRun trapped))

-- a run of them is held, of which nothing was printed
pub record Holds (bytes : List ℕ) (held : Option HeldRun) : Type 0 where
  pub run : HeldRun
  pub is : held ≡ Some run
  pub begins : BeginsRunOfBytes bytes run.machine
  pub unread : run.unread ≡ []

-- by how the call ended, where none was held before
abbrev pub BeginsBy : List ℕ → Status → Option HeldRun → (before now : List ℕ) (told : ℕ) → Type 0
BeginsBy bytes status.Done held before now told = Holds bytes held × Untouched before now told
BeginsBy bytes status.OutOfMemory held before now told = (held ≡ None) × Untouched before now told
BeginsBy bytes ended held before now told = (held ≡ None) × HandsRefusal (HasNoRunOnBytes bytes) ended before now told

-- a handle that holds a run is left as it is
abbrev pub BeginGives : List ℕ → (old : Option HeldRun) → Option Status → (new : Option HeldRun) → (before now : List ℕ) (told : ℕ) → Type 0
BeginGives bytes None (Some ended) new before now told = BeginsBy bytes ended new before now told
BeginGives bytes None None new before now told = ⊥
BeginGives bytes (Some run) result new before now told = (result ≡ None) × (new ≡ Some run) × Untouched before now told

-- ## Steps

-- the status by what stopped a machine, if anything did
abbrev pub status_of : Option RunStop → Status
status_of None = status.Running
status_of (Some run_stop.Ended) = status.Done
status_of (Some (run_stop.Limit name)) = status.Limit
status_of (Some (run_stop.Trapped t)) = status.Trap
status_of (Some run_stop.WriteFault) = status.WriteFault
status_of (Some run_stop.OutOfMemory) = status.OutOfMemory

-- what is told on err: the line that the command writes there
abbrev pub told_of : Option RunStop → List ℕ
told_of None = running.err
told_of (Some run_stop.Ended) = []
told_of (Some (run_stop.Limit name)) = (limit (run_limit_text name)).err
told_of (Some (run_stop.Trapped t)) = (trapped t).err
told_of (Some run_stop.WriteFault) = []
told_of (Some run_stop.OutOfMemory) = []

-- it is told, where memory sufficed
pub data Tells (stop : Option RunStop) (ended : Status) (before now : List ℕ) (told : ℕ) : Type 0 where
  stops : ended ≡ status_of stop → Handed (told_of stop) before now told → Tells stop ended before now told
  no_memory : ended ≡ status.OutOfMemory → Untouched before now told → Tells stop ended before now told

-- the machine took so many reductions at most, and what they printed is unread, behind what was
pub record StepsTo (old : HeldRun) (steps : ℕ) (ended : Status) (held : Option HeldRun) (before now : List ℕ) (told : ℕ) : Type 0 where
  pub stop : Option RunStop
  pub run : HeldRun
  pub is : held ≡ Some run
  pub runs : Runs old.machine steps stop run.machine (Some old.unread) (Some run.unread)
  pub tells : Tells stop ended before now told

abbrev pub StepGives : (old : Option HeldRun) → ℕ → Result Status NoStep → (new : Option HeldRun) → (before now : List ℕ) (told : ℕ) → Type 0
StepGives None steps result new before now told = (result ≡ Err NoRun) × (new ≡ None) × Untouched before now told
StepGives (Some run) steps (Ok ended) new before now told = (run.machine.taken + steps ≤ most_reductions) × StepsTo run steps ended new before now told
StepGives (Some run) steps (Err TooManySteps) new before now told =
    (most_reductions < run.machine.taken + steps) × (new ≡ Some run) × Untouched before now told
StepGives (Some run) steps (Err NoRun) new before now told = ⊥

-- ## What was printed, results and counts

-- the first of what is unread is read, as much as a buffer takes
abbrev pub ReadGives : (old : Option HeldRun) → Option ℕ → (new : Option HeldRun) → (before now : List ℕ) → Type 0
ReadGives None result new before now = (result ≡ None) × (new ≡ None) × (now ≡ before)
ReadGives (Some run) (Some n) new before now =
    (n ≡ min (length before) (length run.unread)) × (new ≡ Some (record run { unread = drop n run.unread })) × (now ≡ take n run.unread ++ drop n before)
ReadGives (Some run) None new before now = ⊥

-- the results as lines, where the run has ended; else there are none
abbrev pub HasResultLinesBy : Option RunStop → Position → List ℕ → Type 0
HasResultLinesBy (Some run_stop.Ended) position text =
    (p : Program) (s : Store) (t : Term) → Begins position.origin p s t → text ≡ (end_reply trapped (Run p s t position.taken).outcome).out
HasResultLinesBy stop position text = text ≡ []

abbrev pub HasResultLines : Position → List ℕ → Type 0
HasResultLines position text = HasResultLinesBy position.stop position text

abbrev pub ResultsGive : (old : Option HeldRun) → Option Status → (new : Option HeldRun) → (before now : List ℕ) (told : ℕ) → Type 0
ResultsGive None result new before now told = (result ≡ None) × (new ≡ None) × Untouched before now told
ResultsGive (Some run) (Some status.Done) new before now told =
    (new ≡ Some run) × ((text : List ℕ) × HasResultLines run.machine text × Handed text before now told)
ResultsGive (Some run) (Some status.OutOfMemory) new before now told = (new ≡ Some run) × Untouched before now told
ResultsGive (Some run) result new before now told = ⊥

-- how many reductions were taken, and how many continuations were made, are consumed and live
pub record AreCounts (position : Position) (c : Counts) : Type 0 where
  pub taken : c.taken ≡ position.taken
  pub made : (p : Program) (s : Store) (t : Term) → Begins position.origin p s t → made (Run p s t position.taken).store ≡ c.made
  pub consumed : (p : Program) (s : Store) (t : Term) → Begins position.origin p s t → consumed (Run p s t position.taken).store ≡ c.consumed
  pub live : (p : Program) (s : Store) (t : Term) → Begins position.origin p s t → live (Run p s t position.taken).store ≡ c.live

abbrev pub CountsGive : Option HeldRun → Option Counts → Type 0
CountsGive None result = result ≡ None
CountsGive (Some run) (Some c) = AreCounts run.machine c
CountsGive (Some run) None = ⊥
