use Rattle.std.proofs.Common.{◌≡◌}
use Rattle.w_syntax.specs.Packed.{unpacked_all}
use Rattle.w_resolve.specs.Instructions.{instr_resolved}
use Rattle.w_resolve.proofs.InPlace.{changed}
use Rattle.w_resolve.proofs.bodies.resolve_body.Given as goal

abbrev pub invariant-loop-packed : goal.invariant-loop-packed
invariant-loop-packed l = unpacked_all l.packed-items ≡ changed (instr_resolved l.instance) l.packed-index (unpacked_all l.initial.packed-items)
