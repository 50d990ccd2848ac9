-- The calls for stack switching instructions.
use Rattle.std.specs.Prelude.{Bool, false, if◌then◌else◌}
use Rattle.w_syntax.specs.declared.instructions.Instr.{Instr}
use Rattle.w_syntax.specs.declared.instructions.Instr.TheVariants as flat
use Rattle.w_syntax.specs.declared.instructions.Op.TheVariants as op
use Rattle.w_syntax.specs.declared.instructions.SwitchingOp.{SwitchingOp}
use Rattle.w_vplain.specs.Prefixes.{Prefix, malformed, follow, is_switching}

abbrev pub is_switching_instr : Instr → Bool
is_switching_instr (flat.Plain o) = is_switching o
is_switching_instr (flat.Block b x end) = false
is_switching_instr (flat.If x other end) = false
is_switching_instr flat.Else = false
is_switching_instr flat.End = false

-- The sequence followed by a stack switching instruction; by another one it begins no body.
abbrev pub follow_switching : Instr → Prefix → Prefix
follow_switching i w = if is_switching_instr i then follow i w else malformed

-- the instruction
abbrev pub instr_of : SwitchingOp → Instr
instr_of o = flat.Plain (op.Switching o)
