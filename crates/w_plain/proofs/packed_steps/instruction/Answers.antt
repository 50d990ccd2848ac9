use Rattle.std.proofs.Common.{◌≡◌, true, false, Some, subst}
use Rattle.w_syntax.specs.Packed.{unpacked}
use Rattle.w_syntax.specs.declared.packed.PackedInstr.{PackedInstr}
use Rattle.w_plain.specs.Plainness.{switches_at}
use Rattle.w_plain.proofs.packed_steps.instruction.Goals as goal

pub unreachable-requires : goal.unreachable-requires
unreachable-requires g c =
    let is : true ≡ false = subst (λ (x : PackedInstr). switches_at (Some (unpacked x)) ≡ false) c.in-Switching.is c.requires.plain in absurd (cc)
