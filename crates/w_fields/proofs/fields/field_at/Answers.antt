use Rattle.w_leb.specs.ReadingLaws.{begins_ok}
use Rattle.w_fields.proofs.fields.field_at.Goals as goal

pub returns-clause-begins : goal.returns-clause-begins
returns-clause-begins g c = begins_ok g.F.Field.format c.args.bytes.now c.args.at c.read.result c.read.ensures
