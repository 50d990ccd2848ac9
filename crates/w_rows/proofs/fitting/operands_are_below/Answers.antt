use Rattle.std.proofs.Common.{eqb-true, arith}
use Rattle.w_rows.specs.declared.operand.Operand.{Operand}
use Rattle.w_rows.proofs.SameRows.{none_gathered}
use Rattle.w_rows.proofs.WordRows.{operands_below_more, operands_below}
use Rattle.w_rows.proofs.fitting.operands_are_below.Goals as goal

pub loop-i-preserved : goal.loop-i-preserved
loop-i-preserved c = λ e.
    let first : Operand = record { word = 0; index = 0 } in
    let none = none_gathered c.loop-i.apart c.apart_by-apart.result e in
    operands_below_more c.args.operands.now c.args.words.now c.args.lengths.now c.loop-i.i first 0 0 (omega arith) (omega arith) (omega arith) (c.apart_by-apart.ensures none.1) (c.loop-i.invariant none.0)

pub returns : goal.returns
returns c = λ t. operands_below c.args.operands.now c.args.words.now c.args.lengths.now c.loop-i.i c.requires.words c.requires.lengths (omega arith) (c.loop-i.invariant (eqb-true c.loop-i.apart 0 t))
