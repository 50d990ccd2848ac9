use Rattle.std.proofs.Common.{◌∙◌, arith}
use Rattle.w_num.proofs.Counts.{iclz_is}
use Rattle.w_num.proofs.bits.i64_clz.Goals as goal

pub returns : goal.returns
returns c = c.from.ensures ∙ iclz_is 64 c.args.a (omega arith)
