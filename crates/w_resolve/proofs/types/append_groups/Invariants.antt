use Rattle.std.proofs.Common.{◌≡◌, ◌++◌, map}
use Rattle.w_link.specs.Shifted.{group_shifted}
use Rattle.w_resolve.proofs.types.append_groups.Given as goal

abbrev pub invariant-loop-group : goal.invariant-loop-group
invariant-loop-group l = l.all.items ≡ l.fn.all.items ++ map (group_shifted l.n) l.yielded
