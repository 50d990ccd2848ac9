use Rattle.std.proofs.Common.{take}
use Rattle.w_canon.specs.Classed.{Classed}
use Rattle.w_canon.proofs.classes.entries_of.Given as goal

abbrev pub invariant-loop-group : goal.invariant-loop-group
invariant-loop-group l = Classed l.numbers (take l.group-index l.groups) l.entries.items
