use Rattle.std.proofs.Common.{◌≤◌, length}
use Rattle.w_canon.proofs.rows.last_unlike.Given as goal

-- no place past the types is looked at
abbrev pub invariant-loop-i : goal.invariant-loop-i
invariant-loop-i l = l.i ≤ length l.others

abbrev pub decreases-loop-i : goal.decreases-loop-i
decreases-loop-i l = l.i
