use Rattle.w_control_ops.proofs.NopAndUnreachable.{unreachable_follows}
use Rattle.w_control_ops.proofs.plain_steps.unreachable.Goals as goal

pub returns : goal.returns
returns c = record { goes = unreachable_follows c.args.program.now c.args.stack.now c.requires.moves }
