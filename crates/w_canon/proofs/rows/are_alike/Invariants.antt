use Rattle.std.proofs.Common.{IsTrue, take}
use Rattle.w_canon.specs.Relations.{Pairwise}
use Rattle.w_canon.specs.Compared.{IsAlike}
use Rattle.w_canon.proofs.rows.are_alike.Given as goal

-- where those so far are alike, each two are
abbrev pub invariant-loop-i : goal.invariant-loop-i
invariant-loop-i l = IsTrue l.alike → Pairwise (IsAlike l.pair) (take l.i l.ones) (take l.i l.others)
