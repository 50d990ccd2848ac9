use Rattle.std.proofs.Common.{◌≡◌, ◌≤◌, ◌-◌, Some, None}
use Rattle.w_reduce.specs.Program.{Program}
use Rattle.w_reduce.specs.Store.{Store}
use Rattle.w_reduce.specs.Terms.{Term}
use Rattle.w_machine.specs.Beginning.{Begins}
use Rattle.traces.specs.Tracing.{IsTraced}
use Rattle.traces.proofs.tracing.trace_steps.Given as goal

-- nothing stopped it yet, and the events of the reductions that it has taken are written
abbrev pub invariant-loop-machine : goal.invariant-loop-machine
invariant-loop-machine g l =
    let held = g.O.Sink.held in
    record {
      origin : l.machine.origin ≡ l.fn.machine.origin;
      going : l.machine.stop ≡ None;
      within : l.machine.taken ≤ l.steps;
      later : g.O.Sink.faults l.fn.out ≤ g.O.Sink.faults l.out;
      traced : (p : Program) (s : Store) (t : Term) → Begins l.fn.machine.origin p s t → IsTraced p s t l.machine (held l.fn.out) (held l.out) (Some l.kept.bytes.items);
    }

abbrev pub decreases-loop-machine : goal.decreases-loop-machine
decreases-loop-machine g l = l.steps - l.machine.taken
