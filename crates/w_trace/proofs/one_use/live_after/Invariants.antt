use Rattle.std.proofs.Common.{◌≡◌, [], Some, take}
use Rattle.w_trace.specs.Once.{uses_of, after_uses}
use Rattle.w_trace.proofs.one_use.live_after.Given as goal

abbrev pub invariant-loop-place : goal.invariant-loop-place
invariant-loop-place l = after_uses (uses_of (take l.place l.events)) [] ≡ Some l.live.items
