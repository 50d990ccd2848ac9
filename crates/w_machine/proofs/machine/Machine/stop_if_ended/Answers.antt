use Rattle.w_machine.proofs.NoReductionTaken.{stop_reached, stops_some, stops_none}
use Rattle.w_machine.proofs.machine.Machine.stop_if_ended.Goals as goal

pub invariant_of-self : goal.invariant_of-self
invariant_of-self c =
    stop_reached c.self.inside.stop c.end_of-stopped.result c.args.self.now c.self.view_is c.requires c.end_of-stopped.ensures c.self.invariant _ _ c.if-is_some.ensures
    c.made-self-inside.ensures.count c.live-self-inside.ensures.count

pub returns-then-is_some : goal.returns-then-is_some
returns-then-is_some c =
    stops_some c.self.inside.stop c.end_of-stopped.result c.args.self.now c.self.view_is c.requires c.end_of-stopped.ensures c.self.invariant c.module-module.ensures.sound c.if-is_some.ensures

pub returns-else-is_some : goal.returns-else-is_some
returns-else-is_some c =
    stops_none c.self.inside.stop c.end_of-stopped.result c.args.self.now c.self.view_is c.requires c.end_of-stopped.ensures c.self.invariant c.module-module.ensures.sound c.if-is_some.ensures
