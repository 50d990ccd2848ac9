-- Sequences that name data segments.
use Rattle.std.specs.Prelude.{Bool, true, false, ◌||◌}
use Rattle.w_syntax.specs.Code.{Code, Done, Plain, Block, If, IfElse}
use Rattle.w_syntax.specs.declared.instructions.Op.{Op}
use Rattle.w_syntax.specs.declared.instructions.Op.TheVariants as op
use Rattle.w_syntax.specs.declared.memory_instructions.MemoryOp.TheVariants as memory

-- the instruction names a data segment
abbrev pub is_of_data : Op → Bool
is_of_data (op.Memory (memory.Init d m)) = true
is_of_data (op.Memory (memory.DataDrop d)) = true
is_of_data _ = false

-- some instruction of the sequence does
unfoldable pub uses_data : Code → Bool
uses_data Done = false
uses_data (Plain o r) = is_of_data o || uses_data r
uses_data (Block kind b x r) = uses_data x || uses_data r
uses_data (If b x r) = uses_data x || uses_data r
uses_data (IfElse b x y r) = uses_data x || (uses_data y || uses_data r)
