use Rattle.w_stands.proofs.RoomOfFrames.{room_for_one}
use Rattle.w_syntax.specs.declared.instructions.Op.TheVariants as op
use Rattle.std.proofs.Common.{◌≡◌, true}
use Rattle.w_value_ops.proofs.FactsOfValues.{pushed_next_holds}
use Rattle.w_value_ops.proofs.GivenValues.{give_place, give_follows}
use Rattle.w_value_ops.proofs.numeric_steps.constant.Goals as goal

pub push_next-requires : goal.push_next-requires
push_next-requires c = record { place = give_place c.args.program.now c.args.stack.now (op.Numeric c.args.operation) c.requires.moves; room = room_for_one c.args.program.now c.requires.moves.u c.args.stack.now (op.Numeric c.args.operation) c.requires.one c.requires.moves.moves }

pub returns-clause-goes : goal.returns-clause-goes
returns-clause-goes c =
    give_follows c.args.program.now c.args.stack.now c.push_next.new.stack (op.Numeric c.args.operation) c.args.value c.requires.gives c.requires.moves c.push_next.ensures.after

pub returns-clause-keeps : goal.returns-clause-keeps
returns-clause-keeps c = λ test on h.
    pushed_next_holds (λ v. test v ≡ true) c.args.value c.args.stack.now c.push_next.new.stack c.push_next.ensures.after (c.requires.plain test on) h
