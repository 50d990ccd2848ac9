use Rattle.w_machine.proofs.RunsGoOn.{took_turn}
use Rattle.w_machine.proofs.machine.turn.Goals as goal

pub returns-in-Some-clause-turns : goal.returns-in-Some-clause-turns
returns-in-Some-clause-turns c =
    took_turn c.args.waiting.now.items c.pop.new.self.items c.in-Some.next c.args.chain.now c.pop-left.new.self c.push.new.self c.requires.fresh c.in-Some.ensures.items c.pop-left.ensures.after
    c.push.ensures.after
