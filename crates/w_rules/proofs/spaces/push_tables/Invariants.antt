use Rattle.std.proofs.Common.{◌≡◌, ◌++◌, map, take}
use Rattle.w_syntax.specs.declared.module.Table.{Table}
use Rattle.w_rules.proofs.spaces.push_tables.Given as goal

abbrev pub invariant-loop-table : goal.invariant-loop-table
invariant-loop-table l = l.tables.items ≡ l.fn.tables.items ++ map (λ (t : Table). t.kind) (take l.table-index l.own)
