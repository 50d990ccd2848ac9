use Rattle.w_rows.specs.TypeRows.{rows_type}
use Rattle.w_vswitch.specs.Places.{placed}
use Rattle.w_vswitch.proofs.FoundTypes.{found_rows}
use Rattle.w_vswitch.proofs.SwitchClauses.{switch_decided}
use Rattle.w_vswitch.proofs.Switches.{none_there}
use Rattle.w_vswitch.proofs.clauses.switch_clause_fits.Goals as goal

pub returns-then-tag-eq0 : goal.returns-then-tag-eq0
returns-then-tag-eq0 c = λ classes ts rs ls.
    let d = placed c.args.setting.now.cx.now ts rs ls in
    switch_decided d c.args.results.types.now c.args.tag (rows_type c.in-Some.tag) c.equals.result
    (found_rows c.type_of_tag.result c.in-Some.tag _ c.type_of_tag.ensures.kind c.in-Some.is)
    (none_there c.in-Some.tag.params.types.now c.if-tag-eq0.true) (c.equals.ensures.related d.types classes.classes)
