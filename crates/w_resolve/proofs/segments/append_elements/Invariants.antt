use Rattle.std.proofs.Common.{◌≡◌, ◌++◌, map}
use Rattle.w_link.specs.Items.{resolved_elem}
use Rattle.w_resolve.proofs.segments.append_elements.Given as goal

abbrev pub invariant-loop-elem : goal.invariant-loop-elem
invariant-loop-elem l = l.all.items ≡ l.fn.all.items ++ map (resolved_elem l.instance) l.yielded
