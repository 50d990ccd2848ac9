use Rattle.w_control_ops.proofs.LeftFrames.{return_there, return_follows, return_keeps}
use Rattle.w_control_ops.proofs.branch_steps.return_.Goals as goal

pub returns-requires : goal.returns-requires
returns-requires c = record { there = return_there c.args.program.now c.args.stack.now c.requires.moves }

pub returns-clause-goes : goal.returns-clause-goes
returns-clause-goes c = return_follows c.args.program.now c.args.stack.now c.requires.moves c.returns.new.self c.end_outside.new.stack c.returns.ensures.after c.end_outside.ensures.after

pub returns-clause-keeps : goal.returns-clause-keeps
returns-clause-keeps c = return_keeps c.args.program.now c.args.stack.now c.requires.moves c.returns.new.self c.end_outside.new.stack c.returns.ensures.after c.end_outside.ensures.after
