use Rattle.std.proofs.Common.{◌≡◌, take}
use Rattle.std.specs.List.{flat_map}
use Rattle.w_rules.specs.Spaces.{marked}
use Rattle.w_rules.proofs.Marks.{named_packed}
use Rattle.w_rules.proofs.named_functions.mark_body.Given as goal

abbrev pub invariant-loop-instr : goal.invariant-loop-instr
invariant-loop-instr l = l.declared ≡ marked l.fn.declared (flat_map named_packed (take l.instr-index l.instrs))
