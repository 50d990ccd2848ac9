use Rattle.std.proofs.Common.{◌≡◌, ◌++◌, drop}
use Rattle.std.specs.List.{flat_map}
use Rattle.w_encode.specs.FlatWritten.{packed_written}
use Rattle.w_encode.proofs.bodies.put_instrs.Given as goal

-- what was written, and the instructions that are left, are all that is to be written
abbrev pub invariant-loop-instr : goal.invariant-loop-instr
invariant-loop-instr l = l.out.items ++ flat_map packed_written (drop l.instr-index l.instrs) ≡ l.fn.out.items ++ flat_map packed_written l.instrs
