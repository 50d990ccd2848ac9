use Rattle.std.proofs.Common.{arith}
use Rattle.w_value_ops.proofs.DropAndSelect.{drop_there, drop_place, drop_follows}
use Rattle.w_value_ops.proofs.parametric_steps.drop_operand.Goals as goal

pub drop_next-requires-clause-there : goal.drop_next-requires-clause-there
drop_next-requires-clause-there c = let h = drop_there c.args.program.now c.args.stack.now c.requires.moves in omega (arith, h)

pub drop_next-requires-clause-place : goal.drop_next-requires-clause-place
drop_next-requires-clause-place c = drop_place c.args.program.now c.args.stack.now c.requires.moves

pub returns-clause-goes : goal.returns-clause-goes
returns-clause-goes c = drop_follows c.args.program.now c.args.stack.now c.requires.moves c.drop_next.new.stack c.drop_next.ensures.after
