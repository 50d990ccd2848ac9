use Rattle.std.proofs.Common.{arith}
use Rattle.w_num.proofs.Counts.{ipopcnt_is}
use Rattle.w_num.proofs.bits.i32_popcnt.Goals as goal

pub returns : goal.returns
returns c = ipopcnt_is 32 c.args.a (omega arith)
