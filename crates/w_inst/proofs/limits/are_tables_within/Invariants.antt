use Rattle.std.proofs.Common.{◌≡◌, drop}
use Rattle.std.specs.Prelude.{map}
use Rattle.w_tables.specs.Elements.{table_limit}
use Rattle.w_syntax.specs.declared.module.Table.{Table}
use Rattle.w_reduce.specs.Start.{none_above}
use Rattle.w_inst.proofs.limits.are_tables_within.Given as goal

-- none so far is above
abbrev pub invariant-loop-table : goal.invariant-loop-table
invariant-loop-table l = none_above table_limit (map (λ (t : Table). t.kind.limits.min) (drop l.table-index l.tables)) ≡ none_above table_limit (map (λ (t : Table). t.kind.limits.min) l.tables)
