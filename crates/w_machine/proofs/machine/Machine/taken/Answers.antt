use Rattle.w_machine.proofs.Results.{machine_counts, machine_stops_with}
use Rattle.w_machine.proofs.machine.Machine.taken.Goals as goal

pub returns-clause-counts : goal.returns-clause-counts
returns-clause-counts c = machine_counts c.args.self.now c.self.invariant c.self.view_is

pub returns-clause-stopped : goal.returns-clause-stopped
returns-clause-stopped c = machine_stops_with c.args.self.now c.self.invariant c.self.view_is
