use Rattle.std.proofs.Common.{bit_and, slice_index_or, arith}
use Rattle.w_rows.proofs.SameRows.{none_gathered}
use Rattle.w_rows.proofs.WordRows.{apart_more}
use Rattle.w_rows.proofs.fitting.are_apart.Goals as goal

pub loop-i-preserved : goal.loop-i-preserved
loop-i-preserved c = λ e.
    let none = none_gathered c.loop-i.common (bit_and (slice_index_or c.args.given.now c.loop-i.i 0) (slice_index_or c.args.wanted.now c.loop-i.i 0)) e in
    apart_more c.args.given.now c.args.wanted.now c.loop-i.i 0 0 (omega arith) (omega arith) none.1 (c.loop-i.invariant none.0)
