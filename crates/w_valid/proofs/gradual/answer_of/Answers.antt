use Rattle.std.proofs.Common.{Some, None, sym, subst, ◌∙◌}
use Rattle.w_rules.specs.Context.{Context}
use Rattle.w_valid.specs.Measured.{IsCodeMeasure}
use Rattle.w_valid.specs.Tables.{AreTablesIn}
use Rattle.w_valid.proofs.AnswersOfBodies.{body_answer, function_same}
use Rattle.w_valid.proofs.KnownClasses.{known_classes}
use Rattle.w_valid.proofs.gradual.answer_of.Goals as goal

pub returns-in-Some-2 : goal.returns-in-Some-2
returns-in-Some-2 c = λ n tables same code within keeps.
    let i = c.args.index in
    let x = c.in-Some.kind.now in
    let f = c.in-Some-item_at.code.now in
    let r = Some (c.in-Some-2.height, c.in-Some-2.depth) in
    let is = function_same same i (Some x) (sym c.in-Some.ensures) in
    let there = sym code ∙ sym c.in-Some-item_at.ensures in
    let context = c.setting-setting.ensures.context n (subst (AreTablesIn n) c.in-Made.is tables) in
    let known = known_classes n c.data_needs-needs.result c.setting-setting.result.context context c.setting-setting.ensures.classes keeps in
    body_answer n i x f c.data_needs-needs.result r is there c.data_needs-needs.ensures
    (subst (λ (k : Context). IsCodeMeasure k x f r) context (rw c.in-Some-2.is at c.in_ok-height.ensures known))

pub returns-in-None : goal.returns-in-None
returns-in-None c = λ n tables same code within keeps.
    let i = c.args.index in
    let x = c.in-Some.kind.now in
    let f = c.in-Some-item_at.code.now in
    let is = function_same same i (Some x) (sym c.in-Some.ensures) in
    let there = sym code ∙ sym c.in-Some-item_at.ensures in
    let context = c.setting-setting.ensures.context n (subst (AreTablesIn n) c.in-Made.is tables) in
    let known = known_classes n c.data_needs-needs.result c.setting-setting.result.context context c.setting-setting.ensures.classes keeps in
    body_answer n i x f c.data_needs-needs.result None is there c.data_needs-needs.ensures
    (subst (λ (k : Context). IsCodeMeasure k x f None) context (rw c.in-None.is at c.in_ok-height.ensures known))
