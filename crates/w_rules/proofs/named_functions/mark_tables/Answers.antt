use Rattle.w_syntax.specs.declared.module.Table.{Table}
use Rattle.w_rules.specs.Spaces.{named_in_some}
use Rattle.w_rules.proofs.Marks.{marked_more}
use Rattle.w_rules.proofs.named_functions.mark_tables.Goals as goal

pub loop-table-preserved : goal.loop-table-preserved
loop-table-preserved c =
    marked_more (λ (t : Table). named_in_some t.init) c.args.declared.now c.loop-table.declared _ c.args.tables.now c.loop-table.table-index c.table-item.result c.loop-table-test.true c.table-item.is c.loop-table.invariant c.mark_table.ensures
