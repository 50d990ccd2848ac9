use Rattle.lists.proofs.Tests.{decided_by}
use Rattle.w_canon.proofs.MatchingTests.{result_same_decided}
use Rattle.w_canon.proofs.classes.Classes.equals_result.Goals as goal

pub returns-clause-related : goal.returns-clause-related
returns-clause-related c = λ gs h. decided_by c.compare_rows.result _ c.compare_rows.ensures (result_same_decided gs c.args.self.now h c.args.a.now c.args.b.now)
