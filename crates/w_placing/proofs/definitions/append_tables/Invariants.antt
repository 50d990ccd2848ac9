use Rattle.std.proofs.Common.{◌≡◌, ◌++◌, map, take}
use Rattle.w_syntax.specs.declared.module.Table.{Table}
use Rattle.w_link.specs.Items.{table_type_shifted}
use Rattle.w_placing.proofs.definitions.append_tables.Given as goal

abbrev pub invariant-loop-table : goal.invariant-loop-table
invariant-loop-table l = l.all.items ≡ l.fn.all.items ++ map (λ (t : Table). table_type_shifted l.n t.kind) (take l.table-index l.tables)
