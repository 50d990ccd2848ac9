use Rattle.std.proofs.Common.{◌≡◌, ◌++◌, map}
use Rattle.w_link.specs.Items.{resolved_func}
use Rattle.w_resolve.proofs.functions.append_codes.Given as goal

abbrev pub invariant-loop-func : goal.invariant-loop-func
invariant-loop-func l = l.all.items ≡ l.fn.all.items ++ map (resolved_func l.instance) l.yielded
