use Rattle.std.proofs.Common.{◌≡◌, drop}
use Rattle.w_syntax.specs.FlatData.{some_of_data}
use Rattle.w_syntax.specs.Packed.{unpacked_all}
use Rattle.w_syntax.proofs.body.some_is_of_data.Given as goal

abbrev pub invariant-loop-instr : goal.invariant-loop-instr
invariant-loop-instr l = some_of_data (unpacked_all (drop l.instr-index l.instrs)) ≡ some_of_data (unpacked_all l.instrs)
