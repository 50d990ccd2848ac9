use Rattle.std.proofs.Common.{rules}
use Rattle.w_chain.proofs.InnermostLayer.{switch_found, switch_none}
use Rattle.w_chain.proofs.chain.Chain.find_switch.Goals as goal

pub returns-then-has_switch-clause-found : goal.returns-then-has_switch-clause-found
returns-then-has_switch-clause-found c =
    switch_found c.args.program.now c.args.tag c.loop-waiting.layer c.args.self.now (search rules)

pub returns-clause-none : goal.returns-clause-none
returns-clause-none c = switch_none c.args.program.now c.args.tag c.args.self.now (search rules)
