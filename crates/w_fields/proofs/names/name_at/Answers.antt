use Rattle.w_leb.specs.ReadingLaws.{begins_ok}
use Rattle.w_syntax.specs.Fields.{name}
use Rattle.w_fields.proofs.names.name_at.Goals as goal

pub returns-clause-begins : goal.returns-clause-begins
returns-clause-begins c = begins_ok name c.args.bytes.now c.args.at c.read_name.result c.read_name.ensures
