use Rattle.std.proofs.Common.{arith}
use Rattle.w_num.proofs.Counts.{iclz_is}
use Rattle.w_num.proofs.bits.i32_clz.Goals as goal

pub returns : goal.returns
returns c = iclz_is 32 c.args.a (omega arith)
