use Rattle.std.proofs.Common.{◌≡◌, ◌≤◌, ◌-◌, None, length, take}
use Rattle.w_reduce.specs.Program.{Program}
use Rattle.w_reduce.specs.Store.{Store}
use Rattle.w_reduce.specs.Terms.{Term}
use Rattle.w_trace.specs.Events.{Events}
use Rattle.w_machine.specs.Beginning.{Begins}
use Rattle.traces.proofs.comparing.follow.Given as goal

-- the events of all reductions that were taken came, the first ones of the list
abbrev pub invariant-loop-machine : goal.invariant-loop-machine
invariant-loop-machine l = record {
  none : l.machine.stop ≡ None;
  within : l.machine.taken ≤ l.steps;
  place : l.place ≤ length l.events;
  origin : l.machine.origin ≡ l.fn.machine.origin;
  so_far : (p : Program) (s : Store) (t : Term) → Begins l.fn.machine.origin p s t → take l.place l.events ≡ Events p s t l.machine.taken;
}

abbrev pub decreases-loop-machine : goal.decreases-loop-machine
decreases-loop-machine l = l.steps - l.machine.taken
