use Rattle.std.proofs.Common.{◌≡◌, ◌+◌, ◌-◌, ◌≤◌, None}
use Rattle.w_machine.specs.GoingOn.{GoesOn}
use Rattle.w_machine.proofs.machine.Machine.go.Given as goal

-- each step so far took a reduction, and the sink grew by what it printed
abbrev pub invariant-loop-self : goal.invariant-loop-self
invariant-loop-self g l = record {
  goes : GoesOn l.fn.self l.self (g.O.Sink.held l.fn.out) (g.O.Sink.held l.out);
  none : l.fn.self.stop ≡ None;
  most : l.self.taken ≤ l.end;
  end : l.end ≡ l.fn.self.taken + l.fn.steps;
  later : g.O.Sink.faults l.fn.out ≤ g.O.Sink.faults l.out;
}

abbrev pub decreases-loop-self : goal.decreases-loop-self
decreases-loop-self g l = l.end - l.self.taken
