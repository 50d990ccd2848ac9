-- How many data segments the instructions of a body name.
use Rattle.std.specs.Prelude.{ℕ, ◌+◌, max}
use Rattle.w_syntax.specs.Code.{Code, Done, Plain, Block, If, IfElse}
use Rattle.w_syntax.specs.declared.memory_instructions.MemoryOp.{MemoryOp}
use Rattle.w_syntax.specs.declared.memory_instructions.MemoryOp.TheVariants as memory
use Rattle.w_syntax.specs.declared.instructions.Instr.{Instr}
use Rattle.w_syntax.specs.declared.instructions.Instr.TheVariants as flat
use Rattle.w_syntax.specs.declared.instructions.Op.{Op}
use Rattle.w_syntax.specs.declared.instructions.Op.TheVariants as op
use Rattle.w_rules.specs.Context.{Context}

-- one more than the greatest index of a data segment that it names, 0 where it names none
abbrev pub memory_needs : MemoryOp → ℕ
memory_needs (memory.Init d x) = d + 1
memory_needs (memory.DataDrop d) = d + 1
memory_needs (memory.Load o a) = 0
memory_needs (memory.Store o a) = 0
memory_needs (memory.Size x) = 0
memory_needs (memory.Grow x) = 0
memory_needs (memory.Copy x y) = 0
memory_needs (memory.Fill x) = 0

abbrev pub op_needs : Op → ℕ
op_needs (op.Memory o) = memory_needs o
op_needs (op.Control o) = 0
op_needs (op.Parametric o) = 0
op_needs (op.Variable o) = 0
op_needs (op.Table o) = 0
op_needs (op.Numeric o) = 0
op_needs (op.Reference o) = 0
op_needs (op.Switching o) = 0

-- the same of an instruction in the list of a body
abbrev pub instr_needs : Instr → ℕ
instr_needs (flat.Plain o) = op_needs o
instr_needs i = 0

-- the same of a sequence
abbrev pub needs : Code → ℕ
needs Done = 0
needs (Plain o k) = max (op_needs o) (needs k)
needs (Block kind x b k) = max (needs b) (needs k)
needs (If x b k) = max (needs b) (needs k)
needs (IfElse x b d k) = max (max (needs b) (needs d)) (needs k)

-- the context with so many data segments
abbrev pub with_datas : ℕ → Context → Context
with_datas n c = record c { datas = n }
