use Rattle.w_rows.proofs.MatchingRows.{ready_below}
use Rattle.w_rows.proofs.type_row.TypeRow.lies_below.Goals as goal

pub returns-in-Some-Some : goal.returns-in-Some-Some
returns-in-Some-Some c = λ es a b t.
    let h = c.words_fit.ensures t in
    ready_below es c.args.self c.args.other c.in-Some-Some.words c.in-Some-Some.others c.in-Some-Some.is-0 c.in-Some-Some.is-1 a b h.0 h.1
