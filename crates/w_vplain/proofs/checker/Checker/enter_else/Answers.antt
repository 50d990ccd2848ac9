use Rattle.std.proofs.Common.{◌==◌, ◌∙◌, ap, sym, length, List}
use Rattle.w_steps.specs.declared.frame.Frame.{Frame as Around}
use Rattle.w_vplain.specs.Standing.{classes_for, context_for, top_of}
use Rattle.w_locals.specs.Locals.{first_set}
use Rattle.w_vplain.proofs.FrameViews.{turn_some, turn_none, nonempty}
use Rattle.w_vplain.proofs.checker.Checker.enter_else.Goals as goal

pub returns-in_ok-enter_block-in-Some-clause-steps : goal.returns-in_ok-enter_block-in-Some-clause-steps
returns-in_ok-enter_block-in-Some-clause-steps c =
    let here = c.args.self.now in
    turn_some (classes_for here) (context_for here) here.top.kind (top_of here) here.outer.items here.locals.sets c.leave_block.new.self.sets c.enter_block.new.self.sets c.in_ok-second.field-0 c.in-Some.second
    (nonempty (length here.outer.items) (ap (λ (xs : List Around). length xs == 0) (sym c.as_slice.ensures.value) ∙ sym c.is_empty.ensures ∙ c.if-is_empty.false))
    c.in-Some.is c.leave_block.ensures.sets c.in_ok-enter_block-in-Some.ensures.sets
    (λ g gs. c.in_ok-second.ensures.steps g gs (first_set here.locals.sets))

pub returns-in-None-clause-steps : goal.returns-in-None-clause-steps
returns-in-None-clause-steps c =
    let here = c.args.self.now in
    turn_none (classes_for here) (context_for here) here.top.kind (top_of here) here.outer.items here.locals.sets c.in_ok-second.field-0
    (nonempty (length here.outer.items) (ap (λ (xs : List Around). length xs == 0) (sym c.as_slice.ensures.value) ∙ sym c.is_empty.ensures ∙ c.if-is_empty.false))
    c.in-None.is
    (λ g gs. c.in_ok-second.ensures.steps g gs (first_set here.locals.sets))
