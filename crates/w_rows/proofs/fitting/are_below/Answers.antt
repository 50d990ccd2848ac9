use Rattle.std.proofs.Common.{eqb-true, arith}
use Rattle.w_rows.proofs.SameRows.{none_gathered}
use Rattle.w_rows.proofs.WordRows.{below_more, below_all}
use Rattle.w_rows.proofs.fitting.are_below.Goals as goal

pub loop-i-preserved : goal.loop-i-preserved
loop-i-preserved c = λ e.
    let none = none_gathered c.loop-i.apart c.apart_by-apart.result e in
    below_more c.args.given.now c.args.wanted.now c.args.lengths.now c.loop-i.i 0 0 0 (omega arith) (omega arith) (omega arith) (c.apart_by-apart.ensures none.1) (c.loop-i.invariant none.0)

pub returns : goal.returns
returns c = λ t. below_all c.args.given.now c.args.wanted.now c.args.lengths.now c.loop-i.i c.requires.words c.requires.lengths (omega arith) (c.loop-i.invariant (eqb-true c.loop-i.apart 0 t))
