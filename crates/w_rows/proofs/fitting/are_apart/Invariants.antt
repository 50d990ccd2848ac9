use Rattle.std.proofs.Common.{◌≡◌, take}
use Rattle.w_rows.specs.Fitting.{AreApart}
use Rattle.w_rows.proofs.fitting.are_apart.Given as goal

-- where no bits are gathered, the words so far have none in common
abbrev pub invariant-loop-i : goal.invariant-loop-i
invariant-loop-i l = l.common ≡ 0 → AreApart (take l.i l.given) (take l.i l.wanted)
