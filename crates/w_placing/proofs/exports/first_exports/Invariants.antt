use Rattle.std.proofs.Common.{◌-◌, drop, length}
use Rattle.w_placing.specs.Exports.{Finds}
use Rattle.w_placing.proofs.exports.first_exports.Given as goal

abbrev pub invariant-loop-behind : goal.invariant-loop-behind
invariant-loop-behind l = Finds l.first (drop (length l.all - l.behind) l.all)
