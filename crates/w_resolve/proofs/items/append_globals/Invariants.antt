use Rattle.std.proofs.Common.{◌≡◌, ◌++◌, map}
use Rattle.w_link.specs.Items.{resolved_global}
use Rattle.w_resolve.proofs.items.append_globals.Given as goal

abbrev pub invariant-loop-global : goal.invariant-loop-global
invariant-loop-global l = l.all.items ≡ l.fn.all.items ++ map (resolved_global l.instance) l.yielded
