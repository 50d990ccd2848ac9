-- A place has at least one block around.
use Rattle.std.proofs.Common.{◌≤◌, arith}
use Rattle.w_syntax.specs.Code.{Code, Done, Plain, Block, If, IfElse}
use Rattle.w_rules.specs.Peak.{depth}

pub one_deep : (k : Code) → 1 ≤ depth k
one_deep Done = omega arith
one_deep (Plain o k) = one_deep k
one_deep (Block b x i k) = let h = one_deep k in omega (arith, h)
one_deep (If x i k) = let h = one_deep k in omega (arith, h)
one_deep (IfElse x i j k) = let h = one_deep k in omega (arith, h)
