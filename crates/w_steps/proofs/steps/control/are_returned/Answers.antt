use Rattle.std.proofs.Common.{sym, ◌∙◌}
use Rattle.w_steps.proofs.ListedResults.{result_listed}
use Rattle.w_steps.proofs.steps.control.are_returned.Goals as goal

pub returns : goal.returns
returns c = c.matches.ensures.computed ∙ sym (result_listed c.args.setting.now.cx.now.classes.now c.args.results.types.now c.args.setting.now.results.types.now)
