use Rattle.std.proofs.Common.{◌≡◌, ◌∙◌, ◌∷◌, [], List, subst, slice_get}
use Rattle.std.specs.Option.{option_map}
use Rattle.w_types.specs.declared.types.ValType.{ValType}
use Rattle.lists.specs.Rows.{row_of}
use Rattle.w_rules.specs.Spaces.{in_body}
use Rattle.w_rules.specs.View.{context_in}
use Rattle.w_steps.specs.Labels.{labels_of}
use Rattle.w_steps.specs.View.{outer_kinds}
use Rattle.w_steps.specs.declared.frame.Frame.{Frame}
use Rattle.w_vplain.proofs.CallsAnswered.{label_answered}
use Rattle.w_vplain.proofs.checker.Checker.label.Goals as goal

pub returns-clause-label : goal.returns-clause-label
returns-clause-label c = λ s w k g.
    let here = c.args.self.now in
    let P : List ValType → List Frame → _ = λ (rs : List ValType) (xs : List Frame).
    slice_get (labels_of (in_body (context_in here.setting.cx.now) [] rs) (here.top.kind ∷ outer_kinds xs)) c.args.index ≡ option_map (λ v. row_of v.types.now) c.label_of.result in
    label_answered here s w c.args.index k g c.if-self.false
    ∙ subst (P here.setting.results.types.now) c.as_slice.ensures.value c.label_of.ensures.label
