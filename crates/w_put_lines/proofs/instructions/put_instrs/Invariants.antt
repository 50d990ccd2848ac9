use Rattle.std.proofs.Common.{◌≡◌, ◌++◌, drop}
use Rattle.std.specs.List.{flat_map}
use Rattle.w_lines.specs.Written.{packed_bytes}
use Rattle.w_put_lines.proofs.instructions.put_instrs.Given as goal

-- what was written, and the instructions that are left, are all that is to be written
abbrev pub invariant-loop-instr : goal.invariant-loop-instr
invariant-loop-instr l = l.out.items ++ flat_map packed_bytes (drop l.instr-index l.instrs) ≡ l.fn.out.items ++ flat_map packed_bytes l.instrs
