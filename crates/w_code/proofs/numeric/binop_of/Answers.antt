use Rattle.std.proofs.Common.{arith}
use Rattle.w_code.proofs.NumericBytes.{last_binary}
use Rattle.w_code.proofs.numeric.binop_of.Goals as goal

pub returns-in_default : goal.returns-in_default
returns-in_default c = last_binary _ (grind arith)
