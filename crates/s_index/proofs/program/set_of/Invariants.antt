use Rattle.std.proofs.Common.{◌-◌, drop, length}
use Rattle.s_check.specs.Views.{HasNames}
use Rattle.s_index.specs.Views.{names_of}
use Rattle.s_index.proofs.program.set_of.Given as goal

abbrev pub invariant-loop-behind : goal.invariant-loop-behind
invariant-loop-behind l = HasNames l.set (names_of (drop (length l.names - l.behind) l.names))
