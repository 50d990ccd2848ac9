use Rattle.std.proofs.Common.{sym}
use Rattle.w_stands.specs.declared.did.Did.TheVariants as did
use Rattle.w_plain.proofs.AttemptedReductions.{moved_step, moved_stays}
use Rattle.w_plain.proofs.Steps.{takes_alone}
use Rattle.w_plain.proofs.control_attempts.attempt_boxed.Goals as goal

pub returns-in-Plain-Control-BrTable-clause-step : goal.returns-in-Plain-Control-BrTable-clause-step
returns-in-Plain-Control-BrTable-clause-step c =
    moved_step did.Went c.move_of.result (c.move_of.ensures.moves c.args.stack.now (sym c.func-function.ensures.value) c.requires.body)
    (takes_alone did.Went c.args.program.now c.args.store.now c.args.stack.now c.br_table.new.stack c.br_table.ensures.goes c.br_table.ensures.keeps)

pub returns-in-Plain-Control-BrTable-clause-stays : goal.returns-in-Plain-Control-BrTable-clause-stays
returns-in-Plain-Control-BrTable-clause-stays c =
    moved_stays c.args.stack.now c.br_table.new.stack did.Went c.move_of.result (c.move_of.ensures.moves c.args.stack.now (sym c.func-function.ensures.value) c.requires.body)
