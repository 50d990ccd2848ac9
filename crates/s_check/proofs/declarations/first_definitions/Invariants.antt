use Rattle.std.proofs.Common.{◌-◌, drop, length}
use Rattle.s_check.specs.Views.{Finds}
use Rattle.s_check.proofs.declarations.first_definitions.Given as goal

abbrev pub invariant-loop-behind : goal.invariant-loop-behind
invariant-loop-behind l = Finds l.first (drop (length l.all - l.behind) l.all)
