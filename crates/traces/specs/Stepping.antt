-- A machine whose run is told event by event.
use Rattle.std.specs.Prelude.{◌≡◌, ◌≢◌, ◌<◌, ◌≤◌, ◌++◌, ℕ, Bool, true, false, Option, Some, None, option_to_list}
use Rattle.w_reduce.specs.Program.{Program}
use Rattle.w_reduce.specs.Run.{Run}
use Rattle.w_reduce.specs.Store.{Store}
use Rattle.w_reduce.specs.Terms.{Term}
use Rattle.w_trace.specs.declared.event.Event.{Event}
use Rattle.w_trace.specs.Events.{Events}
use Rattle.w_configuration.specs.declared.stop.RunStop.{RunStop}
use Rattle.w_machine.specs.Position.{Position, StopsWith, IsNoFault}

-- no fault has stopped the machine, and what has is what its run came to
pub record IsSettled (p : Program) (s : Store) (t : Term) (machine : Position) : Type 0 where
  pub no_fault : IsNoFault machine.stop
  pub stopped : (k : RunStop) → machine.stop ≡ Some k → StopsWith k (Run p s t machine.taken).outcome

-- reductions were taken, with this event of the run if any
pub record GoesToEvent (p : Program) (s : Store) (t : Term) (event : Option Event) (old new : Position) : Type 0 where
  pub settled : IsSettled p s t new
  pub events : Events p s t new.taken ≡ Events p s t old.taken ++ option_to_list event

-- whether the machine goes on then, with so many reductions in all at most; where it doesn't, no fault stopped it
abbrev pub GoesOn : Bool → ℕ → Position → Position → Type 0
GoesOn true steps old new = (new.stop ≡ None) × (new.taken ≤ steps) × (old.taken < new.taken)
GoesOn false steps old new = (new.stop ≢ None) × (new.taken ≤ steps) × IsNoFault new.stop
