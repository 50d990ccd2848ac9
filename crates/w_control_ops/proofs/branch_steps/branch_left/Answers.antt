use Rattle.w_control_ops.proofs.LeftBranches.{left_there, left_follows, left_keeps}
use Rattle.w_control_ops.proofs.branch_steps.branch_left.Goals as goal

pub branch-stack-requires : goal.branch-stack-requires
branch-stack-requires c = record { there = left_there c.args.label c.args.program.now c.args.stack.now c.requires.left c.set_stage.new.self c.set_stage.ensures.after }

pub returns-clause-goes : goal.returns-clause-goes
returns-clause-goes c = left_follows c.args.label c.args.program.now c.args.stack.now c.requires.left c.set_stage.new.self c.branch-stack.new.self c.set_stage.ensures.after c.branch-stack.ensures.after

pub returns-clause-keeps : goal.returns-clause-keeps
returns-clause-keeps c = left_keeps c.args.label c.args.program.now c.args.stack.now c.requires.left c.set_stage.new.self c.branch-stack.new.self c.set_stage.ensures.after c.branch-stack.ensures.after
