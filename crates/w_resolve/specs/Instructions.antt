-- Instructions of a body in one list, with addresses in the place of indices. The places of blocks don't move.
use Rattle.w_syntax.specs.declared.instructions.Instr.{Instr}
use Rattle.w_syntax.specs.declared.instructions.Instr.TheVariants as flat
use Rattle.w_link.specs.Resolved.{Instance, block_resolved, op_resolved}

abbrev pub instr_resolved : Instance → Instr → Instr
instr_resolved i (flat.Plain o) = flat.Plain (op_resolved i o)
instr_resolved i (flat.Block kind b e) = flat.Block kind (block_resolved i.types b) e
instr_resolved i (flat.If b m e) = flat.If (block_resolved i.types b) m e
instr_resolved i flat.Else = flat.Else
instr_resolved i flat.End = flat.End
