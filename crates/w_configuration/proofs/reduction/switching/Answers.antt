use Rattle.std.proofs.Common.{sym, ◌∙◌}
use Rattle.w_configuration.proofs.PartsOfRuns.{known_sound}
use Rattle.w_configuration.proofs.SwitchedStacks.{switches_there, enough_there, few_there, switched_stop, never_a_fault}
use Rattle.w_configuration.proofs.reduction.switching.Goals as goal

pub switch_by-outcome-requires-clause-at : goal.switch_by-outcome-requires-clause-at
switch_by-outcome-requires-clause-at c = switches_there (known_sound c.args.program.known c.module-module.ensures.sound) c.args.operation.now c.requires.body c.requires.here c.requires.stands

pub switch_by-outcome-requires-clause-few : goal.switch_by-outcome-requires-clause-few
switch_by-outcome-requires-clause-few c = few_there c.requires.stands

pub switch_by-outcome-requires-clause-takes : goal.switch_by-outcome-requires-clause-takes
switch_by-outcome-requires-clause-takes c = enough_there (known_sound c.args.program.known c.module-module.ensures.sound) c.args.operation.now c.requires.body c.requires.here c.requires.stands

pub returns-clause-reduces : goal.returns-clause-reduces
returns-clause-reduces c =
    switched_stop (known_sound c.args.program.known c.module-module.ensures.sound) c.args.operation.now c.requires.body c.requires.here _ _ c.switch_by-outcome.ensures.sound c.switch_by-outcome.ensures.roomy c.switch_by-outcome.ensures.references c.switch_by-outcome.result
    c.passed.result c.switching_stop_of.result c.passed.ensures c.switching_stop_of.ensures c.switch_by-outcome.ensures.goes c.switch_by-outcome.ensures.err_chain c.switch_by-outcome.ensures.err_conts c.switch_by-outcome.ensures.err_takes

pub returns-clause-no_fault : goal.returns-clause-no_fault
returns-clause-no_fault c h = never_a_fault c.switch_by-outcome.result c.passed.result (sym c.switching_stop_of.ensures ∙ h)
