-- Runs up to the first event.
use Rattle.std.specs.Prelude.{◌≡◌, ◌<◌, ◌≤◌, ℕ, List, ◌++◌, true, Option, None, is_some, IfSome, option_to_list}
use Rattle.w_reduce.specs.Store.{Store}
use Rattle.w_reduce.specs.Terms.{Term}
use Rattle.w_reduce.specs.Program.{Program}
use Rattle.w_trace.specs.declared.event.Event.{Event}
use Rattle.w_trace.specs.Events.{Events}
use Rattle.w_configuration.specs.declared.stop.RunStop.{RunStop}
use Rattle.w_machine.specs.Beginning.{Begins}
use Rattle.w_machine.specs.Position.{Position, Runs}

-- from one position to the other, one event of the run came at most: it is of the last reduction
pub record Tells (event : Option Event) (old new : Position) : Type 0 where
  pub events : (p : Program) (s : Store) (t : Term) → Begins old.origin p s t → Events p s t new.taken ≡ Events p s t old.taken ++ option_to_list event
  pub last : IfSome event (λ e. e.step ≡ new.taken)

-- A run of so many reductions at most: of so many, where nothing stopped it and no event came.
pub record RunsToEvent (steps : ℕ) (result : Option RunStop) (event : Option Event) (old new : Position) (before now : Option (List ℕ)) : Type 0 where
  pub count : ℕ
  pub most : count ≤ steps
  pub some : is_some event ≡ true → 0 < count
  pub all : result ≡ None → event ≡ None → count ≡ steps
  pub runs : Runs old count result new before now
  pub tells : Tells event old new
