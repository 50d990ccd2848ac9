use Rattle.std.proofs.Common.{◌≡◌, drop}
use Rattle.w_reduce.specs.Imports.{printers_of}
use Rattle.w_inst.proofs.HostFunctions.{behind}
use Rattle.w_inst.proofs.printers.find_printers.Given as goal

-- those so far are found
abbrev pub invariant-loop-import : goal.invariant-loop-import
invariant-loop-import l = printers_of l.program l.program.imports ≡ behind l.printers.items (printers_of l.program (drop l.import-index l.import-items))
