use Rattle.std.proofs.Common.{arith}
use Rattle.w_machine.proofs.Results.{counts_kept, counts_going, counts_consumed}
use Rattle.w_machine.proofs.machine.Machine.consumed.Goals as goal

pub returns-then-is_some : goal.returns-then-is_some
returns-then-is_some c = record {
  value = λ p s t begins.
      counts_consumed _ (counts_kept c.args.self.now c.self.invariant c.self.view_is c.if-is_some.ensures p s t begins) (let few = c.self.invariant.fewer in omega (arith, few));
}

pub returns-else-is_some : goal.returns-else-is_some
returns-else-is_some c = record {
  value = λ p s t begins. counts_consumed _ (counts_going c.args.self.now c.self.invariant c.self.view_is c.if-is_some.ensures p s t begins) c.consumed.ensures.all;
}
