use Rattle.std.proofs.Common.{arith, rules}
use Rattle.w_leb.specs.ShortestLaws.{shortest_spells, shortest_is_short}
use Rattle.w_leb.proofs.writing.put_u64.Goals as goal

pub returns-clause-spelled : goal.returns-clause-spelled
returns-clause-spelled c = rw c.put_number.ensures (shortest_spells 9 64 c.args.v (omega arith) (search rules))

pub returns-clause-least : goal.returns-clause-least
returns-clause-least c = λ b h. rw c.put_number.ensures (shortest_is_short 9 64 c.args.v b h)
