use Rattle.std.proofs.Common.{◌∙◌}
use Rattle.w_vplain.specs.Standing.{top_of}
use Rattle.w_locals.specs.Locals.{outer_sets}
use Rattle.w_vplain.proofs.FrameViews.{peak_answered}
use Rattle.w_vplain.proofs.checker.Checker.count_operands.Goals as goal

pub returns-clause-raises : goal.returns-clause-raises
returns-clause-raises c = λ bases.
    let here = c.args.self.now in
    c.max-self.ensures
    ∙ peak_answered here.ended (top_of here) here.outer.items (outer_sets here.locals.sets) here.peak c.unwrap_or.result here.top.base c.in_ok-here.here c.requires bases.0 c.in_ok-here.ensures c.unwrap_or.ensures
