use Rattle.w_syntax.specs.declared.module.GlobalVariable.{GlobalVariable}
use Rattle.w_rules.specs.Spaces.{named_in}
use Rattle.w_rules.proofs.Marks.{marked_more}
use Rattle.w_rules.proofs.named_functions.mark_globals.Goals as goal

pub loop-global-preserved : goal.loop-global-preserved
loop-global-preserved c =
    marked_more (λ (g : GlobalVariable). named_in g.init) c.args.declared.now c.loop-global.declared _ c.args.globals.now c.loop-global.global-index c.global-item.result c.loop-global-test.true c.global-item.is c.loop-global.invariant c.mark_body.ensures
