use Rattle.std.proofs.Common.{◌≡◌, ◌++◌, map}
use Rattle.w_link.specs.Items.{resolved_table}
use Rattle.w_resolve.proofs.items.append_tables.Given as goal

abbrev pub invariant-loop-table : goal.invariant-loop-table
invariant-loop-table l = l.all.items ≡ l.fn.all.items ++ map (resolved_table l.instance) l.yielded
