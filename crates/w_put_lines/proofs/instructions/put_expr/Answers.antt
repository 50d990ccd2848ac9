use Rattle.w_syntax.proofs.LaidTokens.{put_laid}
use Rattle.w_lines.specs.Written.{token_bytes}
use Rattle.w_put_lines.proofs.instructions.put_expr.Goals as goal

pub returns : goal.returns
returns c = put_laid token_bytes c.put_instrs.result c.put_instrs.new.out.items c.args.out.now.items c.instrs.result.now c.args.body.now c.instrs.ensures c.put_instrs.ensures
