use Rattle.std.proofs.Common.{◌≡◌, IsTrue, take}
use Rattle.w_canon.proofs.rows.are_same.Given as goal

-- where those so far are alike, they are the same
abbrev pub invariant-loop-i : goal.invariant-loop-i
invariant-loop-i l = IsTrue l.alike → take l.i l.ones ≡ take l.i l.others
