use Rattle.std.proofs.Common.{[], sym, subst}
use Rattle.w_syntax.specs.declared.module.Module.{Module}
use Rattle.w_plain.specs.Stepped.{Takes}
use Rattle.w_plain.proofs.AttemptedReductions.{moved_step, moved_stays}
use Rattle.w_plain.proofs.attempts.attempt.Goals as goal

pub returns-in-None-clause-step : goal.returns-in-None-clause-step
returns-in-None-clause-step c =
    moved_step c.leave_end-outcome.result c.move_of.result (c.move_of.ensures.moves c.args.stack.now (sym c.func-function.ensures.value) c.requires.body)
    (subst (λ (m : Module). Takes c.leave_end-outcome.result m [] c.args.store.now c.args.stack.now c.leave_end-outcome.new.store c.leave_end-outcome.new.stack) c.module-source.ensures.same c.leave_end-outcome.ensures.step)

pub returns-in-None-clause-stays : goal.returns-in-None-clause-stays
returns-in-None-clause-stays c =
    moved_stays c.args.stack.now c.leave_end-outcome.new.stack c.leave_end-outcome.result c.move_of.result (c.move_of.ensures.moves c.args.stack.now (sym c.func-function.ensures.value) c.requires.body)
