use Rattle.std.proofs.Common.{refl}
use Rattle.w_tables.specs.declared.entries.FuncEntry.TheVariants as function
use Rattle.w_tables.specs.declared.entries.Printer.TheVariants as printer
use Rattle.w_stands.specs.Values.{store_of}
use Rattle.w_inst.specs.Adding.{with_functions}
use Rattle.w_inst.proofs.AddedItems.{added_more, functions_kind, function_added}
use Rattle.w_inst.proofs.allocation.add_printers.Goals as goal

pub loop-printer-preserved : goal.loop-printer-preserved
loop-printer-preserved c =
    added_more with_functions functions_kind function.Printer (store_of c.loop-printer.store) (store_of c.add_function.new.self) _ c.args.printers.now c.loop-printer.printer-index printer.I32 _
    c.loop-printer-test.true refl (function_added c.loop-printer.store c.add_function.new.self _ c.in_ok-add_function.field-0 c.in_ok-add_function.ensures.added) c.loop-printer.invariant
