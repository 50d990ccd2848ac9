use Rattle.std.proofs.Common.{sym, ◌∙◌}
use Rattle.w_linker.proofs.OneByOne.{in_last_there}
use Rattle.w_linker.proofs.entries.in_last.Goals as goal

pub returns-in-Some : goal.returns-in-Some
returns-in-Some c = c.function.ensures ∙ in_last_there c.args.instances.now c.in-Some.instance.now c.args.function (sym c.in-Some.ensures.value)
