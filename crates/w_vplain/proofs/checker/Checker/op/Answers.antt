use Rattle.std.proofs.Common.{reverse, subst}
use Rattle.w_flow.specs.View.{flow_view}
use Rattle.w_syntax.specs.Packed.{unpacked}
use Rattle.w_syntax.proofs.PlainInstructions.{on_plain, on_plain_two}
use Rattle.w_rules.specs.View.{context_in}
use Rattle.w_vplain.specs.Standing.{classes_for, context_for, top_of}
use Rattle.w_locals.specs.Locals.{outer_sets, first_set}
use Rattle.w_vplain.proofs.FrameViews.{op_taken, op_refused, PlainStep}
use Rattle.w_vplain.proofs.checker.Checker.op.Goals as goal

pub returns-then-not-branch-clause-steps : goal.returns-then-not-branch-clause-steps
returns-then-not-branch-clause-steps c =
    let here = c.args.self.now in
    on_plain _ _ (unpacked c.args.packed.now)
    (λ o step. op_refused (classes_for here) (context_for here) o (top_of here) (reverse here.outer.items) (outer_sets here.locals.sets) c.in_ok-packed_step.field-0 (flow_view c.packed_step.new.flow)
    c.if-not-branch.true
    (subst (PlainStep (classes_for here) (context_in here.setting.cx.now) here.top.kind o (flow_view here.top.flow).any (flow_view here.top.flow).operands c.in_ok-packed_step.field-0 (flow_view c.packed_step.new.flow) here.locals.types (first_set here.locals.sets) here.setting.results.types.now)
    c.as_slice-outer.ensures.value step))
    c.in_ok-packed_step.ensures.steps

pub returns-clause-steps : goal.returns-clause-steps
returns-clause-steps c =
    let here = c.args.self.now in
    on_plain_two _ _ _ (unpacked c.args.packed.now)
    (λ o step first. op_taken (classes_for here) (context_for here) o (top_of here) (reverse here.outer.items) (outer_sets here.locals.sets) c.in_ok-packed_step.field-0 (flow_view c.packed_step.new.flow)
    (first_set c.packed_step.new.locals.sets) (outer_sets c.packed_step.new.locals.sets) c.if-not-branch.false first c.in_ok-packed_step.ensures.outer
    (subst (PlainStep (classes_for here) (context_in here.setting.cx.now) here.top.kind o (flow_view here.top.flow).any (flow_view here.top.flow).operands c.in_ok-packed_step.field-0 (flow_view c.packed_step.new.flow) here.locals.types (first_set here.locals.sets) here.setting.results.types.now)
    c.as_slice-outer.ensures.value step))
    c.in_ok-packed_step.ensures.steps (c.in_ok-packed_step.ensures.sets c.if-not-branch.false)
