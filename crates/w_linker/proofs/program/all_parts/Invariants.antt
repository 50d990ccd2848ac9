use Rattle.std.proofs.Common.{◌≡◌, length}
use Rattle.w_placing.specs.Placing.{zipped}
use Rattle.w_linker.specs.Parts.{ArePartsOf}
use Rattle.w_linker.proofs.program.all_parts.Given as goal

-- those of the files so far
abbrev pub invariant-loop-checked : goal.invariant-loop-checked
invariant-loop-checked l = record {
  many : l.file ≡ length l.yielded;
  parts : ArePartsOf (zipped l.yielded l.instances) l.parts;
}
