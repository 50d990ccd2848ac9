use Rattle.std.proofs.Common.{◌≡◌, take}
use Rattle.w_rows.specs.Fitting.{AreApart, words_of}
use Rattle.w_rows.proofs.fitting.operands_are_apart.Given as goal

-- where no bits are gathered, the operands so far have none in common with the words so far
abbrev pub invariant-loop-i : goal.invariant-loop-i
invariant-loop-i l = l.common ≡ 0 → AreApart (take l.i (words_of l.operands)) (take l.i l.words)
