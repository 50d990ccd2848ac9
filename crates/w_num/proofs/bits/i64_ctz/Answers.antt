use Rattle.std.proofs.Common.{◌∙◌}
use Rattle.w_num.proofs.Counts.{ictz_is}
use Rattle.w_num.proofs.bits.i64_ctz.Goals as goal

pub returns : goal.returns
returns c = c.from.ensures ∙ ictz_is 64 c.args.a
