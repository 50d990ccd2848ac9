use Rattle.std.proofs.Common.{sym, ap, ◌∙◌}
use Rattle.w_reduce.specs.Start.{entry}
use Rattle.w_linker.proofs.OneByOne.{last_entry_is}
use Rattle.w_linker.proofs.entries.last_entry.Goals as goal

pub returns : goal.returns
returns c = c.entry.ensures ∙ ap entry c.module.ensures.same ∙ last_entry_is c.args.modules.now c.in_ok-checked.checked.now (sym c.in_ok-checked.ensures.value)
