use Rattle.std.proofs.Common.{◌<◌, ◌≤◌, length, sym, subst, Option, arith}
use Rattle.std.specs.Option.{option_map}
use Rattle.w_rows.specs.TypeRows.{rows_type}
use Rattle.w_rows.specs.declared.type_row.TypeRow.{TypeRow}
use Rattle.w_vswitch.specs.Places.{placed}
use Rattle.w_vswitch.specs.Rows.{BoundBy}
use Rattle.w_vswitch.proofs.FoundTypes.{found_rows}
use Rattle.w_vswitch.proofs.ContBind.{no_longer, bind_row}
use Rattle.w_vswitch.proofs.instructions.bound.Goals as goal

pub returns-in_err-count-clause-bound : goal.returns-in_err-count-clause-bound
returns-in_err-count-clause-bound c = λ classes ts rs ls.
    let d = placed c.args.setting.now.cx.now ts rs ls in
    let P : Option TypeRow → Type 0 = λ o. BoundBy c.args.before c.args.after (option_map (λ v. v.types.now) o) d in
    let longer : length c.in_ok-one.one.params.types.now < length c.in_ok-other.other.params.types.now =
    (let gap : length c.in_ok-other.other.params.types.now ≤ length c.in_ok-one.one.params.types.now → ⊥ = c.in_err-count.ensures in omega arith) in
    subst P (sym c.from_residual-in_err-count.ensures)
    (no_longer d c.args.before c.args.after (rows_type c.in_ok-one.one) (rows_type c.in_ok-other.other)
    (found_rows c.cont_of.result c.in_ok-one.one _ c.cont_of.ensures.kind c.in_ok-one.was) (found_rows c.cont_of-2.result c.in_ok-other.other _ c.cont_of-2.ensures.kind c.in_ok-other.was) longer)

pub returns-then-matches-2-clause-bound : goal.returns-then-matches-2-clause-bound
returns-then-matches-2-clause-bound c = λ classes ts rs ls.
    let d = placed c.args.setting.now.cx.now ts rs ls in
    bind_row d c.args.before c.args.after c.in_ok-count.count (rows_type c.in_ok-one.one) (rows_type c.in_ok-other.other) c.split_at.result.0.types.now _
    (found_rows c.cont_of.result c.in_ok-one.one _ c.cont_of.ensures.kind c.in_ok-one.was) (found_rows c.cont_of-2.result c.in_ok-other.other _ c.cont_of-2.ensures.kind c.in_ok-other.was)
    (let e = c.in_ok-count.ensures in omega arith) (let e = c.in_ok-count.ensures in omega arith) c.split_at.ensures.front c.split_at.ensures.behind
    ((c.matches.ensures.related d.types classes.classes).0 c.if-matches.true)
    ((c.matches-then-matches.ensures.related d.types classes.classes).0 c.if-matches-2.true)
