use Rattle.std.proofs.Common.{◌∙◌, [], ap, arith, Some}
use Rattle.w_rules.specs.Spaces.{in_body}
use Rattle.w_rules.specs.View.{context_in}
use Rattle.w_steps.proofs.LabelsBack.{label_past, label_back}
use Rattle.w_steps.proofs.body_context.label_of.Goals as goal

pub returns-then-back-outer-clause-label : goal.returns-then-back-outer-clause-label
returns-then-back-outer-clause-label c =
    label_past (in_body (context_in c.args.setting.now.cx.now) [] c.args.setting.now.results.types.now) c.args.kind.now c.args.outer.now c.args.index c.if-back-outer.true

pub returns-clause-label : goal.returns-clause-label
returns-clause-label c =
    label_back (in_body (context_in c.args.setting.now.cx.now) [] c.args.setting.now.results.types.now) c.args.kind.now c.args.outer.now c.args.index c.index-outer-outer.result c.if-index-eq0.false (omega arith)
    ∙ ap Some c.label-2.ensures.label
