use Rattle.w_control_ops.proofs.NopAndUnreachable.{nop_follows}
use Rattle.w_control_ops.proofs.plain_steps.nop.Goals as goal

pub returns-clause-goes : goal.returns-clause-goes
returns-clause-goes c = nop_follows c.args.program.now c.args.stack.now c.drop_next.new.stack c.requires.moves c.drop_next.ensures.after
