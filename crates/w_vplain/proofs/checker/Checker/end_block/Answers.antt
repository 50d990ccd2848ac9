use Rattle.std.proofs.Common.{◌==◌, ◌∙◌, ap, length, refl, List}
use Rattle.w_steps.specs.declared.frame.Frame.{Frame as Around}
use Rattle.w_vplain.specs.Standing.{classes_for, context_for, top_of}
use Rattle.w_locals.specs.Locals.{first_set}
use Rattle.w_vplain.proofs.FrameViews.{left_none, left_block, not_ended}
use Rattle.w_vplain.proofs.checker.Checker.end_block.Goals as goal

pub returns-in_default-clause-steps : goal.returns-in_default-clause-steps
returns-in_default-clause-steps c =
    let here = c.args.self.now in
    left_none (classes_for here) (context_for here) (top_of here) here.outer.items here.locals.sets c.is_empty-alone.result c.end_types.result (c.is_empty-alone.ensures ∙ ap (λ (xs : List Around). length xs == 0) c.as_slice.ensures.value) c.in_default.is
    (λ fs e. c.end_types.ensures.left fs (first_set here.locals.sets) e)

pub returns-in_ok-keep_room-in-Some-pop-clause-steps : goal.returns-in_ok-keep_room-in-Some-pop-clause-steps
returns-in_ok-keep_room-in-Some-pop-clause-steps c =
    let here = c.args.self.now in
    left_block (classes_for here) (context_for here) (top_of here) here.outer.items c.pop.new.self.items here.locals.sets c.leave_block.new.self.sets c.is_empty-alone.result c.end_types.result c.in-Some.to
    c.in-Some-pop.around (record { kind = c.in-Some-pop.around.kind; flow = c.give.new.self; base = c.in-Some-pop.around.base })
    (c.is_empty-alone.ensures ∙ ap (λ (xs : List Around). length xs == 0) c.as_slice.ensures.value) c.in-Some.is c.in-Some-pop.ensures.items c.leave_block.ensures.sets refl c.in_ok-spare-in-Some-pop.ensures.any c.in_ok-spare-in-Some-pop.ensures.operands
    (λ fs e. c.end_types.ensures.left fs (first_set here.locals.sets) e)
    ∙ not_ended here.ended _ c.requires
