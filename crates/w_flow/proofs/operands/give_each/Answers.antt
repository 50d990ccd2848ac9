use Rattle.std.proofs.Common.{◌∙◌, ap, arith}
use Rattle.w_rules.specs.Operands.{Known}
use Rattle.w_rows.specs.Operands.{row_in}
use Rattle.w_rows.proofs.WordedOperands.{worded_pushed}
use Rattle.w_flow.proofs.RowsOfLists.{given_more}
use Rattle.w_flow.proofs.operands.give_each.Goals as goal

pub loop-kind-preserved : goal.loop-kind-preserved
loop-kind-preserved c = record {
  given = ap row_in c.in_ok-push.ensures.added
      ∙ given_more (row_in c.args.operands.now) c.loop-kind.operands c.known.result c.args.types.now c.loop-kind.kind-index c.kind-item.result (omega arith)
      (c.known.ensures.known ∙ ap Known c.kind-item.is) c.loop-kind.invariant.given;
  worded = λ a. worded_pushed c.args.classes.now c.loop-kind.operands c.push.new.self c.known.result c.in_ok-push.ensures.added c.known.ensures.worded (c.loop-kind.invariant.worded a);
}
