use Rattle.std.proofs.Common.{arith}
use Rattle.w_code.proofs.NumericBytes.{no_numeric}
use Rattle.w_code.proofs.numeric.numeric_at.Goals as goal

pub returns-in_default-tag : goal.returns-in_default-tag
returns-in_default-tag c = let b = rw c.in-Some.is at c.read_byte.ensures in no_numeric _ _ _ b.0 (grind arith)

pub returns-in_default-tag-2 : goal.returns-in_default-tag-2
returns-in_default-tag-2 c = let b = rw c.in-Some.is at c.read_byte.ensures in no_numeric _ _ _ b.0 (grind arith)

pub returns-in_default-tag-3 : goal.returns-in_default-tag-3
returns-in_default-tag-3 c = let b = rw c.in-Some.is at c.read_byte.ensures in no_numeric _ _ _ b.0 (grind arith)
