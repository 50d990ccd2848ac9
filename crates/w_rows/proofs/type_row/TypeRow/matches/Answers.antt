use Rattle.std.proofs.Common.{◌≡◌, true, sym}
use Rattle.w_canon.specs.Tests.{result_test}
use Rattle.w_rows.proofs.MatchingRows.{matches_related}
use Rattle.w_rows.proofs.type_row.TypeRow.matches.Goals as goal

pub returns-then-lies_below : goal.returns-then-lies_below
returns-then-lies_below c =
    let es = c.args.classes.now in
    let fit : result_test es c.args.self.types.now c.args.other.types.now ≡ true = c.lies_below.ensures es c.requires.one c.requires.other c.if-lies_below.true in
    record {
      computed = sym fit;
      related = matches_related es c.args.self.types.now c.args.other.types.now fit;
    }
