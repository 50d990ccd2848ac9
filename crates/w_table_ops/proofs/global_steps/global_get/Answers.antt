use Rattle.std.proofs.Common.{refl}
use Rattle.w_syntax.specs.declared.instructions.Op.TheVariants as op
use Rattle.w_syntax.specs.declared.instructions.VariableOp.TheVariants as variable
use Rattle.w_stands.proofs.RoomOfFrames.{room_for_one}
use Rattle.w_table_ops.proofs.Globals.{global_get_needs, global_there, global_get_goes, global_get_keeps}
use Rattle.w_table_ops.proofs.global_steps.global_get.Goals as goal

pub global_get-value-requires : goal.global_get-value-requires
global_get-value-requires c = record { global = global_there c.args.program.now c.args.store.now c.args.stack.now c.args.index c.requires.moves }

pub push_next-requires : goal.push_next-requires
push_next-requires c = record { place = (global_get_needs c.args.program.now c.args.store.now c.args.stack.now c.args.index c.requires.moves).place; room = room_for_one c.args.program.now c.args.store.now c.args.stack.now (op.Variable (variable.GlobalGet c.args.index)) refl c.requires.moves }

pub returns-clause-goes : goal.returns-clause-goes
returns-clause-goes c =
    global_get_goes c.args.program.now c.args.store.now c.args.stack.now c.args.index c.requires.moves c.push_next.new.stack c.global_get-value.result c.global_get-value.ensures.value
    c.push_next.ensures.after

pub returns-clause-keeps : goal.returns-clause-keeps
returns-clause-keeps c =
    global_get_keeps c.args.program.now c.args.store.now c.args.stack.now c.args.index c.requires.moves c.push_next.new.stack c.global_get-value.result c.global_get-value.ensures.value
    c.push_next.ensures.after
