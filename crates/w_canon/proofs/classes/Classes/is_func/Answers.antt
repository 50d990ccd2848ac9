use Rattle.lists.proofs.Tests.{decided_by}
use Rattle.w_canon.proofs.MatchingTests.{func_kind_decided}
use Rattle.w_canon.proofs.classes.Classes.is_func.Goals as goal

pub returns-clause-related : goal.returns-clause-related
returns-clause-related c = λ gs h. decided_by c.is_of_kind.result _ (c.is_of_kind.ensures) (func_kind_decided gs c.args.self.now h c.args.index)
