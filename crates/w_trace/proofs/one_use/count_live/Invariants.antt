use Rattle.std.proofs.Common.{◌≡◌, ◌≤◌, ◌+◌, drop}
use Rattle.w_trace.specs.Once.{number_live}
use Rattle.w_trace.proofs.one_use.count_live.Given as goal

abbrev pub invariant-loop-flag : goal.invariant-loop-flag
invariant-loop-flag l = record {
  sum : l.count + number_live (drop l.flag-index l.live) ≡ number_live l.live;
  few : l.count ≤ l.flag-index;
}
