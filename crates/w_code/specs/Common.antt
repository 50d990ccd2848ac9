-- Instructions that hold no others, as they are packed.
use Rattle.std.specs.Prelude.{◌≡◌, ℕ, List, Some}
use Rattle.w_leb.specs.Format.{ReadsAt}
use Rattle.w_leb.specs.Formats.{constant}
use Rattle.w_syntax.specs.declared.instructions.Instr.TheVariants as flat
use Rattle.w_syntax.specs.declared.instructions.Op.{Op}
use Rattle.w_syntax.specs.declared.instructions.Token.TheVariants as tok
use Rattle.w_syntax.specs.declared.packed.PackedInstr.{PackedInstr}
use Rattle.w_syntax.specs.Packed.{unpacked}
use Rattle.w_syntax.specs.Tokens.{token}
use Rattle.w_code.specs.Opcodes.{Selects}

-- the packed instruction is read here as a token, up to the place
abbrev pub IsPlainAt : List ℕ → ℕ → PackedInstr × ℕ → Type 0
IsPlainAt bytes at found = (o : Op) × (unpacked found.0 ≡ flat.Plain o) × ReadsAt token.read bytes at (Some (tok.Plain o, found.1))

-- the byte alone is read as what the packed instruction stands for
abbrev pub IsAlone : ℕ → PackedInstr → Type 0
IsAlone k packed = (o : Op) × (unpacked packed ≡ flat.Plain o) × Selects token k (constant (tok.Plain o))
