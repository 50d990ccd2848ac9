-- Instructions of a flat list: how they are written, and what they refer to.
use Rattle.std.specs.Prelude.{ℕ, List, Option, None}
use Rattle.w_syntax.specs.declared.instructions.Instr.{Instr}
use Rattle.w_syntax.specs.declared.instructions.Instr.TheVariants as flat
use Rattle.w_syntax.specs.declared.packed.PackedInstr.{PackedInstr}
use Rattle.w_syntax.specs.Flat.{as_token}
use Rattle.w_syntax.specs.Packed.{unpacked}
use Rattle.w_encode.specs.InstructionsWritten.{token_written}
use Rattle.w_encode.specs.FieldsWritten.{referred_by}

abbrev pub instr_written : Instr → List ℕ
instr_written i = token_written (as_token i)

abbrev pub packed_written : PackedInstr → List ℕ
packed_written p = instr_written (unpacked p)

abbrev pub function_in : Instr → Option ℕ
function_in (flat.Plain o) = referred_by o
function_in _ = None
