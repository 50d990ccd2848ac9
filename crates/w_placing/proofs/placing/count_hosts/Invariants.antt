use Rattle.std.proofs.Common.{◌≡◌, ◌+◌, drop}
use Rattle.w_linked.specs.Definitions.{hosts}
use Rattle.w_placing.proofs.HostCounts.{own_count}
use Rattle.w_placing.proofs.placing.count_hosts.Given as goal

abbrev pub invariant-loop-checked : goal.invariant-loop-checked
invariant-loop-checked l = l.count ≡ hosts l.modules + own_count (drop l.checked-index l.modules)
