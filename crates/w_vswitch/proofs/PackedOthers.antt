-- Packed instructions that do not switch stacks.
use Rattle.std.proofs.Common.{◌≡◌, false, Box, Global, refl}
use Rattle.w_syntax.specs.declared.instructions.Instr.{Instr}
use Rattle.w_syntax.specs.declared.packed.PackedInstr.{PackedInstr}
use Rattle.w_syntax.specs.declared.packed.PackedInstr.TheVariants as packed
use Rattle.w_syntax.specs.declared.packed.ShortSwitchingOp.{ShortSwitchingOp}
use Rattle.w_syntax.specs.Packed.{unpacked}
use Rattle.w_vswitch.specs.Following.{is_switching_instr}

pub not_switching : (p : PackedInstr) → ((o : ShortSwitchingOp) → p ≡ packed.Switching o → ⊥) → ((i : Box Instr Global) → p ≡ packed.Boxed i → ⊥) → is_switching_instr (unpacked p) ≡ false
not_switching (packed.Control o) s b = refl
not_switching packed.Drop s b = refl
not_switching packed.Select s b = refl
not_switching (packed.Variable o) s b = refl
not_switching (packed.Table o) s b = refl
not_switching (packed.Load o a x k) s b = refl
not_switching (packed.Store o a x k) s b = refl
not_switching (packed.Memory o) s b = refl
not_switching (packed.I32Const k) s b = refl
not_switching (packed.I64Const k) s b = refl
not_switching (packed.Eqz t) s b = refl
not_switching (packed.Compare t o) s b = refl
not_switching (packed.Unary t o) s b = refl
not_switching (packed.Binary t o) s b = refl
not_switching (packed.Convert o) s b = refl
not_switching (packed.Reference o) s b = refl
not_switching (packed.Switching o) s b = absurd (s o refl)
not_switching (packed.Block k t e) s b = refl
not_switching (packed.If t e) s b = refl
not_switching (packed.IfElse t m e) s b = refl
not_switching packed.Else s b = refl
not_switching packed.End s b = refl
not_switching (packed.Boxed i) s b = absurd (b i refl)
