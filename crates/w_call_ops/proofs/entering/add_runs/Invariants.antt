use Rattle.std.proofs.Common.{◌≡◌, take}
use Rattle.w_segment.specs.Changes.{with_more}
use Rattle.w_call_ops.specs.Entering.{first_values}
use Rattle.w_call_ops.proofs.entering.add_runs.Given as goal

abbrev pub invariant-loop-run : goal.invariant-loop-run
invariant-loop-run l = l.stack ≡ with_more (first_values (take l.run-index l.runs)) l.fn.stack
