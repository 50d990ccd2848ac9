use Rattle.std.proofs.Common.{arith}
use Rattle.w_rows.proofs.ReadyRows.{ready_more}
use Rattle.w_rows.proofs.type_rows.ready_row.Goals as goal

pub loop-kind-preserved : goal.loop-kind-preserved
loop-kind-preserved c =
    ready_more c.args.classes.now c.args.types.now c.loop-kind.kind-index c.kind-item.result c.loop-kind.operands.items _ c.loop-kind.given.items _ c.loop-kind.wanted.items _ c.loop-kind.lengths.items _
    c.known-operand.result c.wanted_word.result c.span_length.result (omega arith) c.kind-item.is c.in_ok-push.ensures.items c.in_ok-push-2.ensures.items c.in_ok-push-3.ensures.items c.in_ok-push-4.ensures.items
    c.known-operand.ensures.given c.known-operand.ensures.index c.wanted_word.ensures c.span_length.ensures c.loop-kind.invariant
