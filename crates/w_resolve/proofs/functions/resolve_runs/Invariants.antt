use Rattle.std.proofs.Common.{◌≡◌}
use Rattle.w_link.specs.Resolved.{run_shifted}
use Rattle.w_resolve.proofs.InPlace.{changed}
use Rattle.w_resolve.proofs.functions.resolve_runs.Given as goal

abbrev pub invariant-loop-run : goal.invariant-loop-run
invariant-loop-run l = l.run-items ≡ changed (run_shifted l.n) l.run-index l.initial.run-items
