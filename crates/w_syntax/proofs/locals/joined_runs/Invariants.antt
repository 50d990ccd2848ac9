use Rattle.std.proofs.Common.{◌≡◌, ◌+◌, ◌<◌, ◌^◌, reverse, vec_len}
use Rattle.w_syntax.specs.Locals.{total}
use Rattle.w_syntax.specs.Locals.{join_all, joined}
use Rattle.w_syntax.proofs.locals.joined_runs.Given as goal

abbrev pub invariant-loop-run : goal.invariant-loop-run
invariant-loop-run l = record {
  so_far : join_all l.runs.items (reverse l.backwards.items) ≡ joined l.fn.runs.items;
  few : total l.runs.items + total (reverse l.backwards.items) < 2 ^ 32;
}

abbrev pub decreases-loop-run : goal.decreases-loop-run
decreases-loop-run l = vec_len l.runs
