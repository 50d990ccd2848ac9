use Rattle.std.proofs.Common.{◌≡◌, take}
use Rattle.w_syntax.specs.Locals.{total}
use Rattle.w_call_ops.proofs.known_functions.count_locals.Given as goal

abbrev pub invariant-loop-run : goal.invariant-loop-run
invariant-loop-run l = l.count ≡ total (take l.run-index l.runs)
