use Rattle.std.proofs.Common.{inr, [], ◌∷◌, None, sym, ap, ◌∙◌}
use Rattle.lists.specs.Rows.{◌▹◌, row_of}
use Rattle.w_syntax.specs.declared.instructions.SwitchingOp.TheVariants as op
use Rattle.w_rules.specs.InstructionTypes.{cont_new_type}
use Rattle.w_vswitch.specs.Rows.{RowAt, RefusedAt}
use Rattle.w_steps.specs.declared.setting.Setting.{Setting}
use Rattle.w_vswitch.proofs.FoundTypes.{new_row, with_rows}
use Rattle.w_vswitch.proofs.RowsApplied.{at_place, by_row, without_row}
use Rattle.w_vswitch.proofs.instructions.cont_new.Goals as goal

pub returns-in-Some-clause-answers : goal.returns-in-Some-clause-answers
returns-in-Some-clause-answers c =
    let x = c.args.index in
    let ins = row_of c.bare.result.types.now ▹ c.nullable.result in
    let outs = row_of c.bare-in-Some.result.types.now in
    by_row c.apply.result c.args.checker.now c.apply.new.self (op.ContNew x) ins outs None c.apply.ensures.answers
    (at_place c.args.checker.now c.setting.result.cx.now (ap (λ (s : Setting). s.cx.now) c.setting.ensures) (RowAt (op.ContNew x) ins outs None)
    (λ classes ts rs ls. with_rows (op.ContNew x) [] (c.non_null.result ∷ []) c.bare.result.types.now c.bare-in-Some.result.types.now c.nullable.result None _ c.bare.ensures.types c.bare-in-Some.ensures.types
    (new_row _ x c.in-Some.function c.nullable.result c.non_null.result (sym c.func_index_of_cont.ensures ∙ c.in-Some.is) c.nullable.ensures c.non_null.ensures)))

pub returns-in-None-clause-answers : goal.returns-in-None-clause-answers
returns-in-None-clause-answers c =
    let x = c.args.index in
    without_row c.refuse.result c.args.checker.now c.refuse.new.self (op.ContNew x) c.refuse.ensures.refuses
    (at_place c.args.checker.now c.setting.result.cx.now (ap (λ (x : Setting). x.cx.now) c.setting.ensures) (RefusedAt (op.ContNew x))
    (λ classes ts rs ls. inr (ap (cont_new_type x) (sym c.func_index_of_cont.ensures ∙ c.in-None.is))))
