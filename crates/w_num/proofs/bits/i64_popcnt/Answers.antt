use Rattle.std.proofs.Common.{◌∙◌, arith}
use Rattle.w_num.proofs.Counts.{ipopcnt_is}
use Rattle.w_num.proofs.bits.i64_popcnt.Goals as goal

pub returns : goal.returns
returns c = c.from.ensures ∙ ipopcnt_is 64 c.args.a (omega arith)
