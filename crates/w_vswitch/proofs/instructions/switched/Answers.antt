use Rattle.std.proofs.Common.{List, None, sym, subst, ◌∙◌}
use Rattle.w_types.specs.declared.types.ValType.{ValType}
use Rattle.lists.specs.Rows.{◌▹◌, row_of}
use Rattle.w_rules.specs.InstructionTypes.{nullable}
use Rattle.w_syntax.specs.declared.instructions.SwitchingOp.TheVariants as op
use Rattle.w_rows.specs.TypeRows.{rows_type}
use Rattle.w_vswitch.specs.Places.{placed}
use Rattle.w_vswitch.specs.Rows.{RowAt}
use Rattle.w_vswitch.proofs.FoundTypes.{found_rows}
use Rattle.w_vswitch.proofs.LastTypes.{front_same, front_within}
use Rattle.w_vswitch.proofs.Switches.{switch_row, none_there}
use Rattle.w_vswitch.proofs.instructions.switched.Goals as goal

pub split_at-requires-clause-there : goal.split_at-requires-clause-there
split_at-requires-clause-there c = front_within c.in_ok-one.one.params.types.now c.in_ok-beneath.beneath.now c.in_ok-beneath.ensures.beneath

pub returns-then-matches-2-clause-switched : goal.returns-then-matches-2-clause-switched
returns-then-matches-2-clause-switched c = λ classes ts rs ls.
    let d = placed c.args.setting.now.cx.now ts rs ls in
    let one = rows_type c.in_ok-one.one in
    let other = rows_type c.in_ok-other.other in
    let tag = rows_type c.in_ok-tag.tag in
    let P : List ValType → Type 0 = λ us. RowAt (op.Switch c.args.index c.args.tag) (row_of us ▹ nullable c.args.index) (row_of other.params) None d in
    subst P (sym (c.split_at.ensures.front ∙ front_same one.params c.in_ok-beneath.beneath.now c.in_ok-beneath.ensures.beneath))
    (switch_row d c.args.index c.args.tag c.in_ok-beneath.back one other tag c.in_ok-beneath.beneath.now
    (found_rows c.cont_of.result c.in_ok-one.one _ c.cont_of.ensures.kind c.in_ok-one.was)
    c.in_ok-beneath.ensures.index
    (found_rows c.cont_of-2.result c.in_ok-other.other _ c.cont_of-2.ensures.kind c.in_ok-other.was)
    (found_rows c.type_of_tag.result c.in_ok-tag.tag _ c.type_of_tag.ensures.kind c.in_ok-tag.was)
    (none_there tag.params c.if-tag-eq0.true)
    ((c.matches.ensures.related d.types classes.classes).0 c.if-matches.true)
    ((c.matches-then-matches.ensures.related d.types classes.classes).0 c.if-matches-2.true))
