-- Packed instructions that hold no others.
use Rattle.std.proofs.Common.{◌≡◌, ℕ, Box, Global, refl}
use Rattle.w_syntax.specs.declared.instructions.BlockKind.{BlockKind}
use Rattle.w_syntax.specs.declared.instructions.Instr.{Instr}
use Rattle.w_syntax.specs.declared.instructions.Instr.TheVariants as flat
use Rattle.w_syntax.specs.declared.instructions.Op.{Op}
use Rattle.w_syntax.specs.declared.packed.PackedInstr.{PackedInstr}
use Rattle.w_syntax.specs.declared.packed.PackedInstr.TheVariants as packed
use Rattle.w_syntax.specs.declared.packed.ShortBlockType.{ShortBlockType}
use Rattle.w_syntax.specs.Packed.{IsPlain, OnPlain, unpacked}

-- a packed instruction that is none of these holds no others, and is no mark
pub plain_else : (p : PackedInstr) → ((k : BlockKind) (b : ShortBlockType) (e : ℕ) → p ≡ packed.Block k b e → ⊥) → ((b : ShortBlockType) (e : ℕ) → p ≡ packed.If b e → ⊥)
    → ((b : ShortBlockType) (m e : ℕ) → p ≡ packed.IfElse b m e → ⊥) → (p ≡ packed.Else → ⊥) → (p ≡ packed.End → ⊥) → ((i : Box Instr Global) → p ≡ packed.Boxed i → ⊥)
    → IsPlain (unpacked p)
plain_else (packed.Control o) b i e m n x = tt
plain_else packed.Drop b i e m n x = tt
plain_else packed.Select b i e m n x = tt
plain_else (packed.Variable o) b i e m n x = tt
plain_else (packed.Table o) b i e m n x = tt
plain_else (packed.Load o a y k) b i e m n x = tt
plain_else (packed.Store o a y k) b i e m n x = tt
plain_else (packed.Memory o) b i e m n x = tt
plain_else (packed.I32Const k) b i e m n x = tt
plain_else (packed.I64Const k) b i e m n x = tt
plain_else (packed.Eqz t) b i e m n x = tt
plain_else (packed.Compare t o) b i e m n x = tt
plain_else (packed.Unary t o) b i e m n x = tt
plain_else (packed.Binary t o) b i e m n x = tt
plain_else (packed.Convert o) b i e m n x = tt
plain_else (packed.Reference o) b i e m n x = tt
plain_else (packed.Switching o) b i e m n x = tt
plain_else (packed.Block k t j) b i e m n x = absurd (b k t j refl)
plain_else (packed.If t j) b i e m n x = absurd (i t j refl)
plain_else (packed.IfElse t k j) b i e m n x = absurd (e t k j refl)
plain_else packed.Else b i e m n x = absurd (m refl)
plain_else packed.End b i e m n x = absurd (n refl)
plain_else (packed.Boxed j) b i e m n x = absurd (x j refl)

-- what follows from facts of a plain instruction is a fact of it too
pub on_plain : (P Q : Op → Type 0) (i : Instr) → ((o : Op) → P o → Q o) → OnPlain P i → OnPlain Q i
on_plain P Q (flat.Plain o) f p = f o p
on_plain P Q (flat.Block k b e) f p = tt
on_plain P Q (flat.If b m e) f p = tt
on_plain P Q flat.Else f p = tt
on_plain P Q flat.End f p = tt

pub on_plain_two : (P Q R : Op → Type 0) (i : Instr) → ((o : Op) → P o → Q o → R o) → OnPlain P i → OnPlain Q i → OnPlain R i
on_plain_two P Q R (flat.Plain o) f p q = f o p q
on_plain_two P Q R (flat.Block k b e) f p q = tt
on_plain_two P Q R (flat.If b m e) f p q = tt
on_plain_two P Q R flat.Else f p q = tt
on_plain_two P Q R flat.End f p q = tt
