use Rattle.w_leb.specs.ReadingLaws.{begins_ok}
use Rattle.w_syntax.specs.Types.{subtype}
use Rattle.w_sections.proofs.types.subtype_at.Goals as goal

pub returns-clause-begins : goal.returns-clause-begins
returns-clause-begins c = begins_ok subtype c.args.bytes.now c.args.at c.read_subtype.result c.read_subtype.ensures
