use Rattle.std.proofs.Common.{refl}
use Rattle.w_valid.proofs.BodiesJudged.{judged_fewer}
use Rattle.w_valid.proofs.judged_bodies.JudgedBodies.truncate.Goals as goal

pub returns-clause-judged : goal.returns-clause-judged
returns-clause-judged c = λ m judged. judged_fewer c.args.self.now _ c.args.count c.truncate.ensures.items c.truncate-2.ensures.items refl judged
