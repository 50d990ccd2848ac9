-- Instructions by what they ask for.
use Rattle.std.specs.Prelude.{Bool, true, false}
use Rattle.w_syntax.specs.declared.instructions.Op.TheVariants as op
use Rattle.w_syntax.specs.declared.instructions.Instr.{Instr}
use Rattle.w_syntax.specs.declared.instructions.Instr.TheVariants as flat
use Rattle.w_syntax.specs.declared.packed.ShortControlOp.{ShortControlOp}
use Rattle.w_syntax.specs.declared.packed.ShortControlOp.TheVariants as short
use Rattle.w_syntax.specs.declared.packed.PackedInstr.{PackedInstr}
use Rattle.w_syntax.specs.declared.packed.PackedInstr.TheVariants as packed

-- the commonest ones, which print nothing: numbers, operands, variables, loads, stores, blocks, and where sequences end
abbrev pub is_common : PackedInstr → Bool
is_common (packed.Control o) = false
is_common (packed.Table o) = false
is_common (packed.Memory o) = false
is_common (packed.Reference o) = false
is_common (packed.Switching o) = false
is_common (packed.Boxed i) = false
is_common p = true

-- those on tables and references, and those on memory but for loads and stores
abbrev pub is_rare : PackedInstr → Bool
is_rare (packed.Table o) = true
is_rare (packed.Memory o) = true
is_rare (packed.Reference o) = true
is_rare p = false

-- those that call a function
abbrev pub is_call : ShortControlOp → Bool
is_call (short.Call f) = true
is_call (short.CallIndirect t k) = true
is_call (short.CallRef t) = true
is_call (short.ReturnCall f) = true
is_call (short.ReturnCallIndirect t k) = true
is_call (short.ReturnCallRef t) = true
is_call o = false

-- those that print nothing, and switch no stacks: control instructions may call a printer
abbrev pub is_silent : Instr → Bool
is_silent (flat.Plain (op.Control o)) = false
is_silent (flat.Plain (op.Switching o)) = false
is_silent i = true
