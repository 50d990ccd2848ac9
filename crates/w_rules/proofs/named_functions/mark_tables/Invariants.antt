use Rattle.std.proofs.Common.{◌≡◌, take}
use Rattle.std.specs.List.{flat_map}
use Rattle.w_syntax.specs.declared.module.Table.{Table}
use Rattle.w_rules.specs.Spaces.{marked, named_in_some}
use Rattle.w_rules.proofs.named_functions.mark_tables.Given as goal

abbrev pub invariant-loop-table : goal.invariant-loop-table
invariant-loop-table l = l.declared ≡ marked l.fn.declared (flat_map (λ (t : Table). named_in_some t.init) (take l.table-index l.tables))
