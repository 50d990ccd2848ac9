use Rattle.std.proofs.Common.{inl, None, ap}
use Rattle.lists.specs.Rows.{◌▹◌, row_of}
use Rattle.w_syntax.specs.declared.instructions.SwitchingOp.TheVariants as op
use Rattle.w_vswitch.specs.Rows.{RowAt, RefusedAt}
use Rattle.w_steps.specs.declared.setting.Setting.{Setting}
use Rattle.w_vswitch.proofs.FoundTypes.{with_top}
use Rattle.w_vswitch.proofs.RowsApplied.{at_place, by_row, without_row}
use Rattle.w_vswitch.proofs.instructions.switch.Goals as goal

pub returns-in-Some-clause-answers : goal.returns-in-Some-clause-answers
returns-in-Some-clause-answers c =
    let o = op.Switch c.args.index c.args.tag in
    let ins = row_of c.in-Some.beneath.types.now ▹ c.nullable.result in
    let outs = row_of c.in-Some.back.types.now in
    by_row c.apply.result c.args.checker.now c.apply.new.self o ins outs None c.apply.ensures.answers
    (at_place c.args.checker.now c.setting.result.cx.now (ap (λ (x : Setting). x.cx.now) c.setting.ensures) (RowAt o ins outs None)
    (λ classes ts rs ls. with_top o (row_of c.in-Some.beneath.types.now) outs _ _ None _ c.nullable.ensures (c.in-Some.ensures.switched classes ts rs ls)))

pub returns-in-None-clause-answers : goal.returns-in-None-clause-answers
returns-in-None-clause-answers c =
    let o = op.Switch c.args.index c.args.tag in
    without_row c.refuse.result c.args.checker.now c.refuse.new.self o c.refuse.ensures.refuses
    (at_place c.args.checker.now c.setting.result.cx.now (ap (λ (x : Setting). x.cx.now) c.setting.ensures) (RefusedAt o) (λ classes ts rs ls. inl (c.in-None.ensures.switched classes ts rs ls)))
