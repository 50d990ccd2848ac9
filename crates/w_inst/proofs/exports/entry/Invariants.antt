use Rattle.std.proofs.Common.{◌≡◌, drop}
use Rattle.w_reduce.specs.Start.{entry_in}
use Rattle.w_inst.proofs.exports.entry.Given as goal

-- none of the exports so far has the name
abbrev pub invariant-loop-export : goal.invariant-loop-export
invariant-loop-export l = entry_in l.program (drop l.export-index l.export-items) ≡ entry_in l.program l.program.exports
