use Rattle.std.proofs.Common.{◌≡◌, take}
use Rattle.w_rows.specs.Fitting.{AreBelow, words_of}
use Rattle.w_rows.proofs.fitting.operands_are_below.Given as goal

-- where nothing is gathered, the operands so far are below the types so far
abbrev pub invariant-loop-i : goal.invariant-loop-i
invariant-loop-i l = l.apart ≡ 0 → AreBelow (take l.i (words_of l.operands)) (take l.i l.words) (take l.i l.lengths)
