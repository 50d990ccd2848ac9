use Rattle.std.proofs.Common.{◌≡◌, ℕ, ◌%◌, ap, ◌∙◌, arith}
use Rattle.w_num.specs.Shifts.{turned}
use Rattle.w_num.proofs.Rotations.{irotl_is}
use Rattle.w_num.proofs.shifts.i64_rotl.Goals as goal

-- the call takes the count modulo the width once more
pub returns : goal.returns
returns c =
    let once : c.args.b % 64 % 64 ≡ c.args.b % 64 = omega arith in
    c.rotate_left.ensures ∙ irotl_is 64 (c.args.b % 64 % 64) c.args.a (omega arith) (omega arith) ∙ ap (λ (k : ℕ). turned 64 k c.args.a) once
