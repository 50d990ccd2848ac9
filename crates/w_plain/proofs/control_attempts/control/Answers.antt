use Rattle.std.proofs.Common.{sym}
use Rattle.w_plain.proofs.AttemptedReductions.{moved_step, moved_stays}
use Rattle.w_plain.proofs.Steps.{takes_alone}
use Rattle.w_plain.proofs.control_attempts.control.Goals as goal

pub returns-in_default-clause-step : goal.returns-in_default-clause-step
returns-in_default-clause-step c =
    moved_step c.branching-outcome.result c.move_of.result (c.move_of.ensures.moves c.args.stack.now (sym c.func-function.ensures.value) c.requires.moves.stage)
    (takes_alone c.branching-outcome.result c.args.program.now c.args.store.now c.args.stack.now c.branching-outcome.new.stack c.branching-outcome.ensures.goes c.branching-outcome.ensures.keeps)

pub returns-in_default-clause-stays : goal.returns-in_default-clause-stays
returns-in_default-clause-stays c =
    moved_stays c.args.stack.now c.branching-outcome.new.stack c.branching-outcome.result c.move_of.result (c.move_of.ensures.moves c.args.stack.now (sym c.func-function.ensures.value) c.requires.moves.stage)
