use Rattle.w_syntax.specs.declared.module.Export.{Export}
use Rattle.w_rules.specs.Spaces.{exported}
use Rattle.w_rules.proofs.Marks.{marked_more}
use Rattle.w_rules.proofs.named_functions.mark_exports.Goals as goal

pub loop-export-preserved : goal.loop-export-preserved
loop-export-preserved c =
    marked_more (λ (e : Export). exported e.index) c.args.declared.now c.loop-export.declared _ c.args.exports.now c.loop-export.export-index c.export-item.result c.loop-export-test.true c.export-item.is c.loop-export.invariant c.mark_export.ensures
