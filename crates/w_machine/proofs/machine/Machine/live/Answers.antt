use Rattle.std.proofs.Common.{sym, ◌∙◌}
use Rattle.w_machine.proofs.Results.{counts_kept, counts_going}
use Rattle.w_machine.proofs.machine.Machine.live.Goals as goal

pub returns-then-is_some : goal.returns-then-is_some
returns-then-is_some c = record { value = λ p s t begins. (counts_kept c.args.self.now c.self.invariant c.self.view_is c.if-is_some.ensures p s t begins).live }

pub returns-else-is_some : goal.returns-else-is_some
returns-else-is_some c =
    record { value = λ p s t begins. (counts_going c.args.self.now c.self.invariant c.self.view_is c.if-is_some.ensures p s t begins).live ∙ sym c.live.ensures.count }
