use Rattle.w_leb.specs.ReadingLaws.{begins_ok}
use Rattle.w_leb.specs.Formats.{vec}
use Rattle.w_fields.proofs.fields.vec_at.Goals as goal

pub returns-clause-begins : goal.returns-clause-begins
returns-clause-begins g c = begins_ok (vec g.F.Field.format) c.args.bytes.now c.args.at c.read_vec.result c.read_vec.ensures
