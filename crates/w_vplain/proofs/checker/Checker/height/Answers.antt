use Rattle.w_vplain.proofs.CallsAnswered.{counts_stand, alive}
use Rattle.w_vplain.proofs.checker.Checker.height.Goals as goal

pub returns : goal.returns
returns c = λ s w k g. (counts_stand c.args.self.now s w k (alive c.args.self.now s w k g)).peak
