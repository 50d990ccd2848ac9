use Rattle.std.proofs.Common.{◌≡◌, ◌++◌, map}
use Rattle.w_link.specs.Items.{resolved_export}
use Rattle.w_resolve.proofs.items.append_exports.Given as goal

abbrev pub invariant-loop-export : goal.invariant-loop-export
invariant-loop-export l = l.all.items ≡ l.fn.all.items ++ map (resolved_export l.instance) l.yielded
