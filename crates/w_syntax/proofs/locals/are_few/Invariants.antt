use Rattle.std.proofs.Common.{◌≡◌, ◌+◌, ◌^◌, drop}
use Rattle.w_syntax.specs.Locals.{total}
use Rattle.w_syntax.proofs.locals.are_few.Given as goal

abbrev pub invariant-loop-run : goal.invariant-loop-run
invariant-loop-run l = l.left + 1 + total l.runs ≡ 2 ^ 32 + total (drop l.run-index l.runs)
