use Rattle.w_machine.proofs.Results.{machine_results, ended_long}
use Rattle.w_machine.proofs.machine.Machine.results.Goals as goal

pub stack-requires : goal.stack-requires
stack-requires c = record { some = ended_long c.self.inside.stop c.if-has_ended.ensures c.self.invariant }

pub returns-then-has_ended-clause-ended : goal.returns-then-has_ended-clause-ended
returns-then-has_ended-clause-ended c =
    machine_results c.args.self.now c.stack.result.now c.operands.result.now c.self.invariant c.self.view_is c.stack.ensures.value c.operands.ensures.value
