use Rattle.std.proofs.Common.{◌≡◌, take}
use Rattle.w_rows.specs.Fitting.{AreBelow}
use Rattle.w_rows.proofs.fitting.are_below.Given as goal

-- where nothing is gathered, the types so far are below the others so far
abbrev pub invariant-loop-i : goal.invariant-loop-i
invariant-loop-i l = l.apart ≡ 0 → AreBelow (take l.i l.given) (take l.i l.wanted) (take l.i l.lengths)
