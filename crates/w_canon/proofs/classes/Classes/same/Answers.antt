use Rattle.std.proofs.Common.{arith}
use Rattle.std.proofs.lemmas.Bool.Decides.{eqb_tells}
use Rattle.lists.proofs.Tests.{decided_by}
use Rattle.w_canon.proofs.MatchingTests.{same_decided}
use Rattle.w_canon.proofs.classes.Classes.same.Goals as goal

pub returns-else-i-j-clause-related : goal.returns-else-i-j-clause-related
returns-else-i-j-clause-related c = λ gs h. decided_by c.have_one_class.result _ (grind (arith, eqb_tells c.args.i c.args.j)) (same_decided gs c.args.self.now h c.args.i c.args.j)
