use Rattle.std.proofs.Common.{List, ap, ◌∙◌}
use Rattle.w_types.specs.declared.types.ValType.{ValType}
use Rattle.w_rows.specs.TypeRows.{rows_type}
use Rattle.w_vswitch.specs.Places.{placed}
use Rattle.w_vswitch.specs.Rows.{label_test}
use Rattle.w_vswitch.proofs.FoundTypes.{found_rows}
use Rattle.w_vswitch.proofs.LabelClauses.{clause_decided}
use Rattle.w_vswitch.proofs.LastTypes.{front_same, front_within}
use Rattle.w_vswitch.proofs.clauses.label_clause_fits.Goals as goal

pub split_at-requires-clause-there : goal.split_at-requires-clause-there
split_at-requires-clause-there c = front_within c.args.label.types.now c.in-Some-last_index.beneath.now c.in-Some-last_index.ensures.beneath

pub returns-in-Some-cont_of : goal.returns-in-Some-cont_of
returns-in-Some-cont_of c = λ classes ts rs ls l there.
    let cx = c.args.setting.now.cx.now in
    clause_decided cx.classes.now (placed cx ts rs ls) classes.classes c.args.results.types.now c.args.tag l c.args.label.types.now c.in-Some-last_index.beneath.now c.in-Some-last_index.index
    (rows_type c.in-Some.tag) (rows_type c.in-Some-cont_of.target) there
    (found_rows c.type_of_tag.result c.in-Some.tag _ c.type_of_tag.ensures.kind c.in-Some.is)
    c.in-Some-last_index.ensures.index
    (found_rows c.cont_of.result c.in-Some-cont_of.target _ c.cont_of.ensures.kind c.in-Some-cont_of.is)
    c.label_matches.result
    (c.label_matches.ensures
    ∙ ap (λ (us : List ValType). label_test cx.classes.now c.args.results.types.now (rows_type c.in-Some.tag) us (rows_type c.in-Some-cont_of.target))
    (c.split_at.ensures.front ∙ front_same c.args.label.types.now c.in-Some-last_index.beneath.now c.in-Some-last_index.ensures.beneath))
