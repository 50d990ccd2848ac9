use Rattle.std.proofs.Common.{arith}
use Rattle.w_rows.proofs.MatchingRows.{ready_match}
use Rattle.w_rows.proofs.type_row.TypeRow.fits.Goals as goal

pub returns-then-words-others : goal.returns-then-words-others
returns-then-words-others c = λ es spans a b t.
    ready_match es spans c.args.self c.args.other c.in-Some-Some.words c.in-Some-Some.others c.in-Some-Some.is-0 c.in-Some-Some.is-1 a b (omega arith) (c.are_apart.ensures t)
