use Rattle.w_syntax.proofs.LaidTokens.{put_laid}
use Rattle.w_encode.specs.InstructionsWritten.{token_written}
use Rattle.w_encode.proofs.bodies.BodyPut.put.Goals as goal

pub returns : goal.returns
returns c = put_laid token_written c.put_instrs.result c.put_instrs.new.out.items c.args.out.now.items c.instrs.result.now c.args.self.now c.instrs.ensures c.put_instrs.ensures
