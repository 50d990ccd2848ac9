use Rattle.std.proofs.Common.{◌≡◌, arith, refl}
use Rattle.std.proofs.lemmas.Int.{to_z-of_z}
use Rattle.w_num.specs.Signed.{inverse}
use Rattle.w_syntax.specs.declared.numeric.NumericOp.TheVariants as numeric
use Rattle.w_inst.proofs.Operands.{i32_put}
use Rattle.w_inst.proofs.constants.put_i32.Goals as goal

pub returns : goal.returns
returns c =
    let bits : c.bits_of_i32.result ≡ inverse 32 c.args.number = grind (arith, to_z-of_z) in
    record { leaves = i32_put (numeric.I32Const c.args.number) c.args.number c.bits_of_i32.result c.args.operands.now.items c.push.new.self.items refl bits c.in_ok-push.ensures.items }
