use Rattle.std.proofs.Common.{◌≡◌, ◌++◌, drop}
use Rattle.w_locals.specs.Locals.{ends_from}
use Rattle.w_locals.proofs.local_types.run_ends.Given as goal

-- the ends so far, and those of the runs that are left, are all
abbrev pub invariant-loop-run : goal.invariant-loop-run
invariant-loop-run l = l.ends.items ++ ends_from l.end (drop l.run-index l.runs) ≡ ends_from l.fn.start l.runs
