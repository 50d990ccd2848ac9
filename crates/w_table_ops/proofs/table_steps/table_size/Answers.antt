use Rattle.std.proofs.Common.{refl}
use Rattle.w_syntax.specs.declared.instructions.Op.TheVariants as op
use Rattle.w_syntax.specs.declared.instructions.TableOp.TheVariants as table
use Rattle.w_stands.proofs.RoomOfFrames.{room_for_one}
use Rattle.w_table_ops.proofs.Elements.{size_needs, size_table, size_goes}
use Rattle.w_table_ops.proofs.table_steps.table_size.Goals as goal

pub table_size-size-requires : goal.table_size-size-requires
table_size-size-requires c = record { table = size_table c.args.program.now c.args.store.now c.args.stack.now c.args.index c.requires.moves }

pub push_next-requires : goal.push_next-requires
push_next-requires c = record { place = (size_needs c.args.program.now c.args.store.now c.args.stack.now c.args.index c.requires.moves).place; room = room_for_one c.args.program.now c.args.store.now c.args.stack.now (op.Table (table.Size c.args.index)) refl c.requires.moves }

pub returns-clause-goes : goal.returns-clause-goes
returns-clause-goes c =
    size_goes c.args.program.now c.args.store.now c.args.stack.now c.args.index c.requires.moves c.push_next.new.stack c.table_size-size.result c.table_size-size.ensures.size
    c.push_next.ensures.after
