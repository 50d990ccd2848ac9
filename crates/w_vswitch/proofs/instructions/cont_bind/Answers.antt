use Rattle.std.proofs.Common.{inl, [], ◌∷◌, None, refl, ap}
use Rattle.lists.specs.Rows.{ε, ◌▹◌, row_of}
use Rattle.w_syntax.specs.declared.instructions.SwitchingOp.TheVariants as op
use Rattle.w_vswitch.specs.Rows.{RowAt, RefusedAt}
use Rattle.w_steps.specs.declared.setting.Setting.{Setting}
use Rattle.w_vswitch.proofs.FoundTypes.{with_types, with_rows}
use Rattle.w_vswitch.proofs.RowsApplied.{at_place, by_row, without_row}
use Rattle.w_vswitch.proofs.instructions.cont_bind.Goals as goal

pub returns-in-Some-clause-answers : goal.returns-in-Some-clause-answers
returns-in-Some-clause-answers c =
    let o = op.ContBind c.args.before c.args.after in
    let ins = row_of c.in-Some.front.types.now ▹ c.nullable.result in
    let outs = row_of c.bare.result.types.now in
    by_row c.apply.result c.args.checker.now c.apply.new.self o ins outs None c.apply.ensures.answers
    (at_place c.args.checker.now c.setting.result.cx.now (ap (λ (x : Setting). x.cx.now) c.setting.ensures) (RowAt o ins outs None)
    (λ classes ts rs ls. with_rows o c.in-Some.front.types.now (c.non_null.result ∷ []) c.in-Some.front.types.now c.bare.result.types.now c.nullable.result None _ refl c.bare.ensures.types
    (with_types o (row_of c.in-Some.front.types.now) ε _ _ _ _ None _ c.nullable.ensures c.non_null.ensures (c.in-Some.ensures.bound classes ts rs ls))))

pub returns-in-None-clause-answers : goal.returns-in-None-clause-answers
returns-in-None-clause-answers c =
    let o = op.ContBind c.args.before c.args.after in
    without_row c.refuse.result c.args.checker.now c.refuse.new.self o c.refuse.ensures.refuses
    (at_place c.args.checker.now c.setting.result.cx.now (ap (λ (x : Setting). x.cx.now) c.setting.ensures) (RefusedAt o) (λ classes ts rs ls. inl (c.in-None.ensures.bound classes ts rs ls)))
