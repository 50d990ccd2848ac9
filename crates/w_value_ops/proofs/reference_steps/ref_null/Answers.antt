use Rattle.std.proofs.Common.{refl}
use Rattle.w_stands.proofs.RoomOfFrames.{room_for_one}
use Rattle.w_types.specs.declared.value.Value.TheVariants as value
use Rattle.w_syntax.specs.declared.instructions.Op.TheVariants as op
use Rattle.w_syntax.specs.declared.instructions.ReferenceOp.TheVariants as reference
use Rattle.w_value_ops.proofs.GivenValues.{give_follows}
use Rattle.w_value_ops.proofs.ReferenceOps.{null_rule}
use Rattle.w_value_ops.proofs.reference_steps.ref_null.Goals as goal

pub push_next-requires-clause-room : goal.push_next-requires-clause-room
push_next-requires-clause-room c = room_for_one c.args.program.now c.requires.moves.u c.args.stack.now (op.Reference (reference.Null c.args.heap)) refl c.requires.moves.moves

pub returns-clause-goes : goal.returns-clause-goes
returns-clause-goes c =
    give_follows c.args.program.now c.args.stack.now c.push_next.new.stack (op.Reference (reference.Null c.args.heap)) value.Null (null_rule c.args.heap) c.requires.moves
    c.push_next.ensures.after
