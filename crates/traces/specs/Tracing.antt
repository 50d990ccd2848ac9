-- How far a trace has been written, of a run that goes on.
use Rattle.std.specs.Prelude.{◌≡◌, ℕ, List, ◌++◌, map, Option, Some}
use Rattle.std.specs.List.{flat_map}
use Rattle.w_outside.specs.Outside.{Grew, GrewByFront}
use Rattle.w_reduce.specs.Program.{Program}
use Rattle.w_reduce.specs.Store.{Store}
use Rattle.w_reduce.specs.Terms.{Term}
use Rattle.w_trace.specs.declared.event.Event.{Event}
use Rattle.w_trace.specs.declared.line.Line.TheVariants as line
use Rattle.w_trace.specs.Events.{Events}
use Rattle.w_trace.specs.Lines.{line_bytes, text_of}
use Rattle.w_trace.specs.Traces.{trace_of}
use Rattle.w_machine.specs.Position.{Position}
use Rattle.replies.specs.declared.stop.Stop.{Stop}
use Rattle.replies.specs.declared.stop.Stop.TheVariants.{Refused, WriteFault, OutOfMemory}
use Rattle.traces.specs.Stepping.{IsSettled}

-- the text of events
abbrev pub event_lines : List Event → List ℕ
event_lines es = flat_map line_bytes (map line.Event es)

-- of a text out grew by the first part, and the rest is kept
pub record IsWritten (text : List ℕ) (before now kept : Option (List ℕ)) : Type 0 where
  pub part : List ℕ
  pub rest : List ℕ
  pub joined : part ++ rest ≡ text
  pub grew : Grew before now part
  pub is_kept : kept ≡ Some rest

-- the events of the reductions that the machine has taken are written
pub record IsTraced (p : Program) (s : Store) (t : Term) (machine : Position) (before now kept : Option (List ℕ)) : Type 0 where
  pub settled : IsSettled p s t machine
  pub written : IsWritten (event_lines (Events p s t machine.taken)) before now kept

-- a first part of the trace of the run of at most so many steps is written
abbrev pub IsBegunTrace : Program → Store → Term → ℕ → Option (List ℕ) → Option (List ℕ) → Type 0
IsBegunTrace p s t steps before now = GrewByFront before now (text_of (trace_of p s t steps))

-- what stops a trace: out could not be written, where a count of faults rose, or memory ran out; with so much of it written
abbrev pub StopsTrace : Stop → Type 0 → Type 0 → Type 0
StopsTrace (Refused refusal) rose begun = ⊥
StopsTrace WriteFault rose begun = rose × begun
StopsTrace OutOfMemory rose begun = begun
