use Rattle.std.proofs.Common.{refl}
use Rattle.w_syntax.specs.declared.instructions.Op.TheVariants as op
use Rattle.w_syntax.specs.declared.instructions.ReferenceOp.TheVariants as reference
use Rattle.w_stands.proofs.RoomOfFrames.{room_for_one}
use Rattle.w_value_ops.proofs.ReferenceOps.{func_goes}
use Rattle.w_value_ops.proofs.reference_steps.ref_func.Goals as goal

pub push_next-requires-clause-room : goal.push_next-requires-clause-room
push_next-requires-clause-room c = room_for_one c.args.program.now c.args.store.now c.args.stack.now (op.Reference (reference.Func c.args.function)) refl c.requires.moves

pub returns-clause-goes : goal.returns-clause-goes
returns-clause-goes c =
    func_goes c.args.program.now c.args.store.now c.args.stack.now c.args.function c.requires.moves c.push_next.new.stack c.push_next.ensures.after
