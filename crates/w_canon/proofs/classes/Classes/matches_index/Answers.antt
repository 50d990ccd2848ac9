use Rattle.lists.proofs.Tests.{decided_by}
use Rattle.w_canon.proofs.MatchingTests.{index_decided, index_same, index_below}
use Rattle.w_canon.proofs.classes.Classes.matches_index.Goals as goal

pub returns-then-same-clause-related : goal.returns-then-same-clause-related
returns-then-same-clause-related c = λ gs h.
    decided_by c.same.result _ (index_same c.args.self.now c.args.i c.args.j c.same.result c.same.ensures.computed c.if-same.true) (index_decided gs c.args.self.now h c.args.i c.args.j)

pub returns-else-same-clause-related : goal.returns-else-same-clause-related
returns-else-same-clause-related c = λ gs h.
    decided_by c.is_below.result _ (index_below c.args.self.now c.args.i c.args.j c.same.result c.is_below.result c.same.ensures.computed c.if-same.false c.is_below.ensures)
    (index_decided gs c.args.self.now h c.args.i c.args.j)
