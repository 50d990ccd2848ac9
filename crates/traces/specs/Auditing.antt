-- What an audit of a file comes to, before a run is compared with it.
use Rattle.std.specs.Prelude.{◌≡◌, ◌≤◌, ◌⊎◌, ℕ, List, ◌∷◌, ◌++◌, length, take, slice_get, Option, Some, None, ⊤}
use Rattle.w_outside.specs.Outside.{Known}
use Rattle.w_reduce.specs.Program.{Program}
use Rattle.w_reduce.specs.Store.{Store}
use Rattle.w_reduce.specs.Terms.{Term}
use Rattle.w_trace.specs.declared.event.Event.{Event}
use Rattle.w_trace.specs.Events.{Events}
use Rattle.w_trace.specs.declared.trace.Trace.{Trace}
use Rattle.w_trace.specs.Lines.{IsTextOf, IsWrongAt, DifferAt}
use Rattle.w_trace.specs.Once.{IsOneShot, IsUnsoundAt, uses_of}
use Rattle.w_machine.specs.Position.{Position}
use Rattle.intake.specs.Reading.{MayHold, FileRefusal}
use Rattle.replies.specs.Answer.{Reply, input_limit, no_trace, unsound}
use Rattle.traces.specs.declared.comparing.Followed.{Followed}
use Rattle.traces.specs.declared.comparing.Followed.TheVariants.{All, Apart}
use Rattle.runs.specs.Running.{IsAfter}
use Rattle.traces.specs.Stepping.{IsSettled}

-- the name may give bytes that aren't too many and of which this holds
abbrev pub MayGive : Known → (List ℕ → Type 0) → Type 0
MayGive known Is = (bytes : List ℕ) × MayHold known bytes × (length bytes ≤ input_limit) × Is bytes

-- why a file is refused, where bytes are refused so
abbrev pub FileRefused : Known → Type 0 → (List ℕ → Reply → Type 0) → Reply → Type 0
FileRefused known failed Refused reply = FileRefusal known failed reply ⊎ MayGive known (λ bytes. Refused bytes reply)

-- why bytes are refused that are to be a trace: they are none, or an event is unsound
abbrev pub TraceRefusal : List ℕ → Reply → Type 0
TraceRefusal bytes reply =
    ((l : ℕ) × IsWrongAt bytes l × (reply ≡ no_trace l)) ⊎ ((x : Trace) × IsTextOf x bytes × ((l : ℕ) × IsUnsoundAt x.events l × (reply ≡ unsound l)))

-- the bytes are the text of this trace, whose events are one-shot
abbrev pub IsSoundTrace : Trace → List ℕ → Type 0
IsSoundTrace x bytes = IsTextOf x bytes × IsOneShot (uses_of x.events)

-- ## A list of events, and those of a run

-- So many of the run's events came, the first ones of the list: those of all reductions that the machine has taken. Or the event of the
-- run with this number is another than the list's, or the list has none there.
abbrev pub FollowedTo : List Event → Program → Store → Term → ℕ → Position → Followed → Type 0
FollowedTo es p s t steps machine (All n) = (n ≤ length es) × (take n es ≡ Events p s t machine.taken) × IsSettled p s t machine
FollowedTo es p s t steps machine (Apart n) = (n ≤ length es) × ((e : Event) × (rest : List Event) × (Events p s t steps ≡ take n es ++ e ∷ rest) × (slice_get es n ≡ Some e → ⊥))

-- all reductions that were asked for are taken, or none follows, where the run's events all came
abbrev pub IsAfterAll : Position → ℕ → Followed → Type 0
IsAfterAll machine steps (All n) = IsAfter machine steps
IsAfterAll machine steps (Apart n) = ⊤

-- the first line in which two traces differ, and none where they are one
abbrev pub IsDifference : Trace → Trace → Option ℕ → Type 0
IsDifference x y None = x ≡ y
IsDifference x y (Some l) = DifferAt x y l
