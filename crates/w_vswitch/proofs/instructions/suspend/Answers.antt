use Rattle.std.proofs.Common.{inr, None, refl, ap}
use Rattle.lists.specs.Rows.{row_of}
use Rattle.w_syntax.specs.declared.instructions.SwitchingOp.TheVariants as op
use Rattle.w_rules.specs.InstructionTypes.{call_type}
use Rattle.w_rows.specs.TypeRows.{rows_type}
use Rattle.w_vswitch.specs.Rows.{RowAt, RefusedAt}
use Rattle.w_steps.specs.declared.setting.Setting.{Setting}
use Rattle.w_vswitch.proofs.FoundTypes.{found_rows, missing_rows, suspend_row}
use Rattle.w_vswitch.proofs.RowsApplied.{at_place, by_row, without_row}
use Rattle.w_vswitch.proofs.instructions.suspend.Goals as goal

pub returns-clause-answers : goal.returns-clause-answers
returns-clause-answers c =
    let o = op.Suspend c.args.tag in
    let ins = row_of c.in-Some.kind.params.types.now in
    let outs = row_of c.in-Some.kind.results.types.now in
    by_row c.apply.result c.args.checker.now c.apply.new.self o ins outs None c.apply.ensures.answers
    (at_place c.args.checker.now c.setting.result.cx.now (ap (λ (x : Setting). x.cx.now) c.setting.ensures) (RowAt o ins outs None)
    (λ classes ts rs ls. suspend_row _ c.args.tag (rows_type c.in-Some.kind) c.in-Some.kind.params.types.now c.in-Some.kind.results.types.now
    (found_rows c.type_of_tag.result c.in-Some.kind _ c.type_of_tag.ensures.kind c.in-Some.is) refl refl))

pub returns-in_default-clause-answers : goal.returns-in_default-clause-answers
returns-in_default-clause-answers c =
    let o = op.Suspend c.args.tag in
    without_row c.refuse.result c.args.checker.now c.refuse.new.self o c.refuse.ensures.refuses
    (at_place c.args.checker.now c.setting.result.cx.now (ap (λ (x : Setting). x.cx.now) c.setting.ensures) (RefusedAt o)
    (λ classes ts rs ls. inr (ap call_type (missing_rows c.type_of_tag.result _ c.type_of_tag.ensures.kind c.in_default.is))))
