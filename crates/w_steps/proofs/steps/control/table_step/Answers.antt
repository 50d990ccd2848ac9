use Rattle.std.proofs.Common.{Bool, Some, None, if◌then◌else◌, sym, ◌∙◌, ap}
use Rattle.w_flow.specs.View.{flow_view, anything}
use Rattle.w_steps.specs.View.{context_at}
use Rattle.w_steps.proofs.TablesTaken.{table_answer}
use Rattle.w_steps.proofs.steps.control.table_step.Goals as goal

pub returns-then-not-labels_fit-clause-steps : goal.returns-then-not-labels_fit-clause-steps
returns-then-not-labels_fit-clause-steps c =
    let flow = flow_view c.args.flow.now in
    table_answer c.args.body.now.setting.now.cx.now.classes.now (context_at c.args.body.now).labels flow.any _ flow.operands _ c.in-Some.label.types.now c.args.otherwise c.args.labels.now _ _ _
    c.take_tested.ensures.left c.if-not-take_tested.false c.take_tested.ensures.any c.in-Some.ensures.label c.can_take.ensures c.if-not-can_take.false c.labels_fit.ensures
    ∙ ap (λ (b : Bool). if b then Some anything else None) c.if-not-labels_fit.true

pub returns-clause-steps : goal.returns-clause-steps
returns-clause-steps c =
    let flow = flow_view c.args.flow.now in
    table_answer c.args.body.now.setting.now.cx.now.classes.now (context_at c.args.body.now).labels flow.any _ flow.operands _ c.in-Some.label.types.now c.args.otherwise c.args.labels.now _ _ _
    c.take_tested.ensures.left c.if-not-take_tested.false c.take_tested.ensures.any c.in-Some.ensures.label c.can_take.ensures c.if-not-can_take.false c.labels_fit.ensures
    ∙ ap (λ (b : Bool). if b then Some anything else None) c.if-not-labels_fit.false
    ∙ ap Some (sym c.leave.ensures.left)

pub returns-clause-words : goal.returns-clause-words
returns-clause-words c = c.leave.ensures.words c.args.body.now.setting.now.cx.now.classes.now
