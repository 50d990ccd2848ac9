use Rattle.std.proofs.Common.{inr, refl, ap}
use Rattle.lists.specs.Rows.{◌▹◌, row_of}
use Rattle.w_syntax.specs.declared.instructions.SwitchingOp.TheVariants as op
use Rattle.w_rules.specs.InstructionTypes.{resume_type}
use Rattle.w_rows.specs.TypeRows.{rows_type}
use Rattle.w_vswitch.specs.Rows.{RefusedAt}
use Rattle.w_steps.specs.declared.setting.Setting.{Setting}
use Rattle.w_vswitch.proofs.FoundTypes.{found_rows, missing_rows}
use Rattle.w_vswitch.proofs.Resumes.{cont_at, resume_row, resume_refused}
use Rattle.w_vswitch.proofs.RowsApplied.{at_place, by_row, without_row}
use Rattle.w_vswitch.proofs.instructions.resume.Goals as goal

pub returns-in_default-clause-answers : goal.returns-in_default-clause-answers
returns-in_default-clause-answers c =
    let o = op.Resume c.args.index c.args.clauses.now in
    without_row c.refuse.result c.args.checker.now c.refuse.new.self o c.refuse.ensures.refuses
    (at_place c.args.checker.now c.setting.result.cx.now (ap (λ (x : Setting). x.cx.now) c.setting.ensures) (RefusedAt o)
    (λ classes ts rs ls. inr (ap (resume_type c.args.index) (missing_rows c.cont_of.result _ c.cont_of.ensures.kind c.in_default.is))))

pub returns-then-not-clauses_fit-clause-answers : goal.returns-then-not-clauses_fit-clause-answers
returns-then-not-clauses_fit-clause-answers c =
    let o = op.Resume c.args.index c.args.clauses.now in
    let r = c.refuse-then-not-clauses_fit in
    let kind = rows_type c.in-Some.kind in
    without_row r.result c.args.checker.now r.new.self o r.ensures.refuses
    (λ s w k g. resume_refused _ c.args.index c.args.clauses.now kind c.in-Some.kind.results.types.now c.clauses_fit.result
    (cont_at c.args.checker.now c.setting.result.cx.now (ap (λ (x : Setting). x.cx.now) c.setting.ensures) c.args.index kind (found_rows c.cont_of.result c.in-Some.kind _ c.cont_of.ensures.kind c.in-Some.is) w)
    refl (c.clauses_fit.ensures s w k g) c.if-not-clauses_fit.true)

pub returns-clause-answers : goal.returns-clause-answers
returns-clause-answers c =
    let o = op.Resume c.args.index c.args.clauses.now in
    let ins = row_of c.in-Some.kind.params.types.now ▹ c.nullable-reference.result in
    let outs = row_of c.in-Some.kind.results.types.now in
    let raise = c.longest_label-raise.result in
    let kind = rows_type c.in-Some.kind in
    by_row c.apply.result c.args.checker.now c.apply.new.self o ins outs raise c.apply.ensures.answers
    (λ s w k g. resume_row _ c.args.index c.args.clauses.now kind c.in-Some.kind.results.types.now c.in-Some.kind.params.types.now c.in-Some.kind.results.types.now c.nullable-reference.result raise
    (cont_at c.args.checker.now c.setting.result.cx.now (ap (λ (x : Setting). x.cx.now) c.setting.ensures) c.args.index kind (found_rows c.cont_of.result c.in-Some.kind _ c.cont_of.ensures.kind c.in-Some.is) w)
    refl refl refl c.nullable-reference.ensures ((c.clauses_fit.ensures s w k g).0 c.if-not-clauses_fit.false) (c.longest_label-raise.ensures s w k g))
