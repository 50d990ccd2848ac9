use Rattle.std.proofs.Common.{◌≡◌, ◌+◌, drop}
use Rattle.w_syntax.specs.Locals.{total}
use Rattle.w_rules.proofs.limits.fits_within.Given as goal

-- the locals looked at so far took what is not left
abbrev pub invariant-loop-run : goal.invariant-loop-run
invariant-loop-run l = total l.runs + l.left ≡ total (drop l.run-index l.runs) + l.room
