-- The trace of a run: its events, how many reductions it takes, and how it ends.
use Rattle.std.specs.Prelude.{ℕ}
use Rattle.w_reduce.specs.Program.{Program}
use Rattle.w_reduce.specs.Run.{Outcome, Running, Values, Traps, Limit, NoRule, Run}
use Rattle.w_reduce.specs.Store.{Store}
use Rattle.w_reduce.specs.Terms.{Term}
use Rattle.w_trace.specs.declared.trace.Ending.{Ending}
use Rattle.w_trace.specs.declared.trace.Ending.TheVariants as ending
use Rattle.w_trace.specs.declared.trace.Trace.{Trace}
use Rattle.w_trace.specs.Events.{Events}

-- no run of a valid module comes to NoRule
abbrev pub ending_of : Outcome → Ending
ending_of Running = ending.Running
ending_of (Values vs) = ending.Ended
ending_of (Traps t) = ending.Trapped t
ending_of (Limit name) = ending.Limit name
ending_of NoRule = ending.Running

-- of a run of at most n reductions
abbrev pub trace_of : Program → Store → Term → ℕ → Trace
trace_of p s t n = record { events = Events p s t n; taken = (Run p s t n).taken; ending = ending_of (Run p s t n).outcome }
