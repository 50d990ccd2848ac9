use Rattle.std.proofs.Common.{rules}
use Rattle.w_chain.proofs.InnermostLayer.{label_found, label_none}
use Rattle.w_chain.proofs.chain.Chain.find_suspend.Goals as goal

pub returns-in-Some-label_of-clause-found : goal.returns-in-Some-label_of-clause-found
returns-in-Some-label_of-clause-found c =
    label_found c.args.program.now c.args.tag c.loop-waiting.layer c.in-Some-label_of.label c.args.self.now (search rules)

pub returns-clause-none : goal.returns-clause-none
returns-clause-none c = label_none c.args.program.now c.args.tag c.args.self.now (search rules)
