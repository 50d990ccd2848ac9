use Rattle.w_num.proofs.Counts.{ictz_is}
use Rattle.w_num.proofs.bits.i32_ctz.Goals as goal

pub returns : goal.returns
returns c = ictz_is 32 c.args.a
