use Rattle.std.proofs.Common.{◌∙◌, ◌%◌, arith}
use Rattle.w_num.proofs.Rotations.{irotl_is}
use Rattle.w_num.proofs.shifts.i32_rotl.Goals as goal

pub returns : goal.returns
returns c = c.rotate_left.ensures ∙ irotl_is 32 (c.args.b % 32) c.args.a (omega arith) (omega arith)
