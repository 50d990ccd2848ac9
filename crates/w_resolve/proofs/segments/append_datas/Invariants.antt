use Rattle.std.proofs.Common.{◌≡◌, ◌++◌, map}
use Rattle.w_link.specs.Items.{resolved_data}
use Rattle.w_resolve.proofs.segments.append_datas.Given as goal

abbrev pub invariant-loop-segment : goal.invariant-loop-segment
invariant-loop-segment l = l.all.items ≡ l.fn.all.items ++ map (resolved_data l.instance) l.yielded
