use Rattle.std.proofs.Common.{◌≡◌, drop, map}
use Rattle.w_tables.specs.declared.entries.FuncEntry.TheVariants as function
use Rattle.w_stands.specs.Values.{store_of}
use Rattle.w_inst.specs.Adding.{with_functions}
use Rattle.w_inst.proofs.allocation.add_printers.Given as goal

-- those so far are added
abbrev pub invariant-loop-printer : goal.invariant-loop-printer
invariant-loop-printer l = with_functions (store_of l.store) (map function.Printer (drop l.printer-index l.printers)) ≡ with_functions (store_of l.fn.store) (map function.Printer l.printers)
