-- Several reductions of a machine, with nothing that stopped it between.
use Rattle.std.specs.Prelude.{◌≡◌, ◌≢◌, ◌<◌, ◌≤◌, ℕ, List, Bool, true, false, Option, Some, is_some}
use Rattle.w_reduce.specs.Store.{Store}
use Rattle.w_reduce.specs.Terms.{Term}
use Rattle.w_reduce.specs.Program.{Program}
use Rattle.w_reduce.specs.Run.{Run}
use Rattle.w_trace.specs.Events.{Events}
use Rattle.w_configuration.specs.declared.stop.RunStop.TheVariants as run_stop
use Rattle.w_machine.specs.Beginning.{Begins}
use Rattle.w_machine.specs.Position.{Position, PrintedBetween, Steps}

-- from one position to a later one of the same run: the sink grew by what the reductions between print
pub record GoesOn (old new : Position) (before now : Option (List ℕ)) : Type 0 where
  pub is : new ≡ record old { taken = new.taken }
  pub more : old.taken ≤ new.taken
  pub prints : (p : Program) (s : Store) (t : Term) → Begins old.origin p s t → PrintedBetween (Run p s t old.taken) (Run p s t new.taken) before now

-- none of the reductions between has an event
abbrev pub SameEvents : Position → Position → Type 0
SameEvents old new = (p : Program) (s : Store) (t : Term) → Begins old.origin p s t → Events p s t new.taken ≡ Events p s t old.taken

-- ## Reductions with no sink at hand

-- they print nothing, and where they are quiet they do nothing with continuations
pub record GoesSilently (quiet : Bool) (old new : Position) : Type 0 where
  pub goes : (held : Option (List ℕ)) → GoesOn old new held held
  pub events : quiet ≡ true → SameEvents old new

-- one more was taken or attempted, and the machine is stopped then or isn't
pub record TakesSilently (stopped : Bool) (old new : Position) : Type 0 where
  pub stops : stopped ≡ is_some new.stop
  pub no_fault : new.stop ≢ Some run_stop.WriteFault
  pub steps : (held : Option (List ℕ)) → Steps old new.stop new held held

-- Up to `end` in all of them were taken, and where the machine is stopped, one more.
abbrev pub LeadsTo : Bool → ℕ → Position → Position → Type 0
LeadsTo true end between new = (between.taken < end) × TakesSilently true between new
LeadsTo false end between new = (between.taken ≤ end) × (new ≡ between)

pub record Hastens (quiet stopped : Bool) (end : ℕ) (old new : Position) : Type 0 where
  pub between : Position
  pub silently : GoesSilently quiet old between
  pub last : LeadsTo stopped end between new
