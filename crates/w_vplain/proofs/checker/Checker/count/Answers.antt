use Rattle.std.proofs.Common.{◌∙◌}
use Rattle.w_vplain.specs.Standing.{top_of}
use Rattle.w_locals.specs.Locals.{outer_sets}
use Rattle.w_vplain.proofs.FrameViews.{depth_answered}
use Rattle.w_vplain.proofs.checker.Checker.count.Goals as goal

pub returns-clause-deepens : goal.returns-clause-deepens
returns-clause-deepens c =
    let here = c.args.self.now in
    c.count_operands.ensures.depth ∙ c.max-self.ensures
    ∙ depth_answered here.ended (top_of here) here.outer.items c.as_slice.result.now (outer_sets here.locals.sets) here.depth c.in_ok-open.open c.if-self.false c.as_slice.ensures.value c.in_ok-open.ensures
