use Rattle.std.proofs.Common.{◌≡◌, true, sym}
use Rattle.w_canon.specs.Tests.{result_same_test}
use Rattle.w_rows.proofs.MatchingRows.{rows_same, equals_related}
use Rattle.w_rows.proofs.type_row.TypeRow.equals.Goals as goal

pub returns-then-fits-2 : goal.returns-then-fits-2
returns-then-fits-2 c =
    let es = c.args.classes.now in
    let same : result_same_test es c.args.self.types.now c.args.other.types.now ≡ true =
    rows_same es c.args.self.types.now c.args.other.types.now
    (c.fits.ensures es c.have_spans.ensures c.requires.one c.requires.other c.if-fits.true) (c.fits-then-fits.ensures es c.have_spans.ensures c.requires.other c.requires.one c.if-fits-2.true) in
    record {
      computed = sym same;
      related = equals_related es c.args.self.types.now c.args.other.types.now same;
    }
