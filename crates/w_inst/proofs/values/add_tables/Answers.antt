use Rattle.std.proofs.Common.{ap, ◌∙◌, arith, map, List}
use Rattle.std.proofs.lemmas.List.{drop_all}
use Rattle.w_syntax.specs.declared.module.Table.{Table}
use Rattle.w_reduce.specs.Start as start
use Rattle.w_stands.specs.Values.{store_of}
use Rattle.w_inst.specs.Adding.{with_tables}
use Rattle.w_inst.proofs.AddedItems.{added_more, added_all, tables_kind, table_added}
use Rattle.w_inst.proofs.RoomInModules.{table_fits}
use Rattle.w_inst.proofs.FoundValues.{table_made}
use Rattle.w_inst.proofs.values.add_tables.Goals as goal

pub loop-table-init : goal.loop-table-init
loop-table-init c = λ p s w. ap (λ (l : List Table). with_tables (store_of c.args.store.now) (map (start.table_of p s) l)) c.as_slice-table-items.ensures

pub filling-requires : goal.filling-requires
filling-requires c = record {
  constant = (table_fits c.args.program.now c.as_slice-table-items.result.now c.loop-table.table-index c.table-item.result c.requires.sound c.requires.within c.as_slice-table-items.ensures c.loop-table-test.true c.table-item.is).init;
}

pub overflow_cast-limits : goal.overflow_cast-limits
overflow_cast-limits c =
    let fits = table_fits c.args.program.now c.as_slice-table-items.result.now c.loop-table.table-index c.table-item.result c.requires.sound c.requires.within c.as_slice-table-items.ensures c.loop-table-test.true c.table-item.is in
    omega (arith, fits.limits.min)

pub narrowed-requires : goal.narrowed-requires
narrowed-requires c =
    (table_fits c.args.program.now c.as_slice-table-items.result.now c.loop-table.table-index c.table-item.result c.requires.sound c.requires.within c.as_slice-table-items.ensures c.loop-table-test.true c.table-item.is).limits.max

pub add_table-requires : goal.add_table-requires
add_table-requires c = record {
  size = (table_fits c.args.program.now c.as_slice-table-items.result.now c.loop-table.table-index c.table-item.result c.requires.sound c.requires.within c.as_slice-table-items.ensures c.loop-table-test.true c.table-item.is).limits.min;
}

pub loop-table-preserved : goal.loop-table-preserved
loop-table-preserved c = λ p s w.
    added_more with_tables tables_kind (start.table_of p s) (store_of c.loop-table.store) (store_of c.add_table.new.self) _ c.as_slice-table-items.result.now c.loop-table.table-index c.table-item.result _
    c.loop-table-test.true (table_made p s c.table-item.result c.in_ok-value.value c.narrowed.result (c.in_ok-value.ensures.value p s w) c.narrowed.ensures ∙ ap (start.table_of p s) c.table-item.is)
    (table_added c.loop-table.store c.add_table.new.self _ c.narrowed.result c.in_ok-value.value c.in_ok-add_table.field-0 c.in_ok-add_table.ensures.added) (c.loop-table.invariant p s w)

pub returns : goal.returns
returns c = record {
  added = λ p s w. added_all with_tables tables_kind (start.table_of p s) (store_of c.loop-table.store) _ c.as_slice-table-items.result.now c.loop-table.table-index
      (drop_all c.loop-table.table-index c.as_slice-table-items.result.now (omega arith)) (c.loop-table.invariant p s w);
}
