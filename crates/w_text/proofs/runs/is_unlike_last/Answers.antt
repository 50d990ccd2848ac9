use Rattle.std.proofs.Common.{ap, ◌∙◌}
use Rattle.std.specs.Prelude.{not}
use Rattle.w_text.proofs.LocalsSoFar.{unlike_none, unlike_some}
use Rattle.w_text.proofs.runs.is_unlike_last.Goals as goal

pub returns-in-None : goal.returns-in-None
returns-in-None c = unlike_none c.args.runs.now c.args.run c.in-None.ensures.value

pub returns-in-Some : goal.returns-in-Some
returns-in-Some c = ap not c.are_one_type.ensures ∙ unlike_some c.args.runs.now c.args.run c.in-Some.last.now c.in-Some.ensures.value
