use Rattle.w_control_ops.proofs.Conditions.{br_there, br_follows, all_keeps}
use Rattle.w_control_ops.proofs.branch_steps.br.Goals as goal

pub branch-stack-requires : goal.branch-stack-requires
branch-stack-requires c = record { there = br_there c.args.program.now c.args.stack.now c.args.label c.requires.moves }

pub returns-clause-goes : goal.returns-clause-goes
returns-clause-goes c = br_follows c.args.program.now c.args.stack.now c.args.label c.requires.moves c.branch-stack.new.self c.branch-stack.ensures.after

pub returns-clause-keeps : goal.returns-clause-keeps
returns-clause-keeps c =
    all_keeps c.args.label c.args.stack.now c.branch-stack.new.self (br_there c.args.program.now c.args.stack.now c.args.label c.requires.moves) c.branch-stack.ensures.after
