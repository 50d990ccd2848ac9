use Rattle.std.proofs.Common.{arith, ap, ◌∙◌}
use Rattle.std.proofs.lemmas.List.{drop_all}
use Rattle.w_reduce.specs.Imports.{printer_of}
use Rattle.w_inst.proofs.HostFunctions.{found_more, found_none, found_all}
use Rattle.w_inst.proofs.printers.find_printers.Goals as goal

pub returns-in_default : goal.returns-in_default
returns-in_default c =
    let m = c.args.program.now in
    let none = c.in_default.ensures ∙ ap (printer_of m) c.import-item.is in
    record {
      found = found_none m c.as_slice-import-items.result.now c.loop-import.import-index c.import-item.result c.loop-import.printers.items c.len.result _ c.loop-import-test.true none (omega (arith, c.len.ensures)) c.loop-import.invariant;
    }

pub loop-import-preserved : goal.loop-import-preserved
loop-import-preserved c =
    let m = c.args.program.now in
    let some = c.in-Some.ensures ∙ ap (printer_of m) c.import-item.is in
    found_more m c.as_slice-import-items.result.now c.loop-import.import-index c.import-item.result c.loop-import.printers.items _ c.in-Some.printer _ c.loop-import-test.true some c.in_ok-push.ensures.items c.loop-import.invariant

pub returns : goal.returns
returns c = record {
  found = found_all c.args.program.now c.as_slice-import-items.result.now c.loop-import.import-index c.loop-import.printers.items _ (drop_all c.loop-import.import-index c.as_slice-import-items.result.now (omega arith)) c.loop-import.invariant;
}
