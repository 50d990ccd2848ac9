use Rattle.std.proofs.Common.{bit_and, slice_index_or, arith}
use Rattle.w_rows.specs.declared.operand.Operand.{Operand}
use Rattle.w_rows.proofs.SameRows.{none_gathered}
use Rattle.w_rows.proofs.WordRows.{operands_apart_more}
use Rattle.w_rows.proofs.fitting.operands_are_apart.Goals as goal

pub loop-i-preserved : goal.loop-i-preserved
loop-i-preserved c = λ e.
    let first : Operand = record { word = 0; index = 0 } in
    let none = none_gathered c.loop-i.common (bit_and (slice_index_or c.args.operands.now c.loop-i.i first).word (slice_index_or c.args.words.now c.loop-i.i 0)) e in
    operands_apart_more c.args.operands.now c.args.words.now c.loop-i.i first 0 (omega arith) (omega arith) none.1 (c.loop-i.invariant none.0)
