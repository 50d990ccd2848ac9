use Rattle.std.proofs.Common.{◌∙◌, ◌%◌, arith}
use Rattle.w_num.proofs.Rotations.{irotr_is}
use Rattle.w_num.proofs.shifts.i32_rotr.Goals as goal

pub returns : goal.returns
returns c = c.rotate_right.ensures ∙ irotr_is 32 (c.args.b % 32) c.args.a (omega arith) (omega arith)
