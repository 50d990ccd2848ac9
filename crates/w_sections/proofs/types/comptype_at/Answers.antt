use Rattle.w_leb.specs.ReadingLaws.{begins_ok}
use Rattle.w_syntax.specs.Types.{comptype}
use Rattle.w_sections.proofs.types.comptype_at.Goals as goal

pub returns-clause-begins : goal.returns-clause-begins
returns-clause-begins c = begins_ok comptype c.args.bytes.now c.args.at c.read_comptype.result c.read_comptype.ensures
