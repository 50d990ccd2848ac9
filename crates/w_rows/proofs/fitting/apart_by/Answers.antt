use Rattle.std.proofs.Common.{arith}
use Rattle.w_rows.proofs.ApartWords.{apart_tells}
use Rattle.w_rows.proofs.fitting.apart_by.Goals as goal

pub returns : goal.returns
returns c = apart_tells c.args.given c.args.wanted c.args.length c.bit-before.ensures c.bit-behind.ensures c.bit-differ.ensures (λ le. omega arith)
