use Rattle.std.proofs.Common.{refl}
use Rattle.w_syntax.specs.declared.instructions.Op.TheVariants as op
use Rattle.w_syntax.specs.declared.memory_instructions.MemoryOp.TheVariants as memory
use Rattle.w_stands.proofs.RoomOfFrames.{room_for_one}
use Rattle.w_memory_ops.proofs.MemorySizes.{size_needs, size_follows}
use Rattle.w_memory_ops.proofs.sizes.size.Goals as goal

pub memory-requires : goal.memory-requires
memory-requires c = record { memory = (size_needs c.args.index c.requires.moves).memory }

pub push_next-requires : goal.push_next-requires
push_next-requires c = record { place = (size_needs c.args.index c.requires.moves).operands.place; room = room_for_one c.args.program.now c.args.store.now c.args.stack.now (op.Memory (memory.Size c.args.index)) refl c.requires.moves }

pub returns-clause-goes : goal.returns-clause-goes
returns-clause-goes c =
    size_follows c.args.index c.requires.moves c.memory.result.now c.size.result c.push_next.new.stack c.memory.ensures.memory c.size.ensures.pages
    c.push_next.ensures.after
