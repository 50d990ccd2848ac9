use Rattle.std.proofs.Common.{◌∙◌, sym, subst}
use Rattle.std.specs.Prelude.{◌<◌}
use Rattle.w_machine.specs.Position.{Position, most_reductions}
use Rattle.w_machine.proofs.RunsGoOn.{turned}
use Rattle.w_machine.proofs.Machines.{machine_stands, machine_few, nothing_stopped, segments_stay, keeps_nothing, keeps_something, steps_on, steps_last}
use Rattle.w_machine.proofs.machine.Machine.advance_slowly.Goals as goal

pub reduce-stopped-requires-clause-stands : goal.reduce-stopped-requires-clause-stands
reduce-stopped-requires-clause-stands g c =
    machine_stands c.self.inside.stop c.module.ensures.same c.if-is_some.ensures c.self.invariant c.classes-classes.result.now c.classes-classes.ensures

pub reduce-stopped-requires-clause-made : goal.reduce-stopped-requires-clause-made
reduce-stopped-requires-clause-made g c =
    machine_few c.self.inside.stop c.module.ensures.same c.if-is_some.ensures c.self.invariant (subst (λ (q : Position). q.taken < most_reductions) (sym c.self.view_is) c.requires)

pub turn-requires-clause-some : goal.turn-requires-clause-some
turn-requires-clause-some g c =
    segments_stay c.self.inside.stop c.module.ensures.same c.if-is_some.ensures c.self.invariant c.reduce-stopped.new.stop _ _ _ c.classes-classes.result.now c.classes-classes.ensures
    (nothing_stopped c.reduce-stopped.new.stop (sym c.reduce-stopped.ensures.stops ∙ c.if-not-stopped.true)) c.reduce-stopped.ensures.reduces

pub invariant_of-self : goal.invariant_of-self
invariant_of-self g c =
    let nothing = nothing_stopped c.reduce-stopped.new.stop (sym c.reduce-stopped.ensures.stops ∙ c.if-not-stopped.true) in
    keeps_nothing c.self.inside.stop c.module.ensures.same c.if-is_some.ensures c.self.invariant c.reduce-stopped.new.stop _ _ _ c.classes-classes.result.now c.classes-classes.ensures c.module.ensures.sound
    (subst (λ (q : Position). q.taken < most_reductions) (sym c.self.view_is) c.requires) nothing c.reduce-stopped.ensures.reduces
    (turned _ c.turn.new.chain c.self.invariant.fresh
    (segments_stay c.self.inside.stop c.module.ensures.same c.if-is_some.ensures c.self.invariant c.reduce-stopped.new.stop _ _ _ c.classes-classes.result.now c.classes-classes.ensures nothing c.reduce-stopped.ensures.reduces)
    c.turn.ensures.stays c.turn.ensures.turns)

pub invariant_of-self-in-Some : goal.invariant_of-self-in-Some
invariant_of-self-in-Some g c =
    keeps_something c.self.inside.stop c.module.ensures.same c.if-is_some.ensures c.self.invariant c.reduce-stopped.new.stop _ _ _ c.in-Some.stop c.count.result _ _ c.count.ensures
    c.made-made.ensures.count c.live-live.ensures.count c.classes-classes.result.now c.classes-classes.ensures
    (subst (λ (q : Position). q.taken < most_reductions) (sym c.self.view_is) c.requires) c.in-Some.is c.reduce-stopped.ensures.reduces

pub returns-then-not-stopped-clause-steps : goal.returns-then-not-stopped-clause-steps
returns-then-not-stopped-clause-steps g c =
    steps_on c.self.inside.stop c.module.ensures.same c.if-is_some.ensures c.self.invariant c.reduce-stopped.new.stop _ _ _ c.args.self.now c.self.view_is
    (nothing_stopped c.reduce-stopped.new.stop (sym c.reduce-stopped.ensures.stops ∙ c.if-not-stopped.true)) c.module.ensures.sound c.reduce-stopped.ensures.reduces

pub returns-clause-steps : goal.returns-clause-steps
returns-clause-steps g c =
    steps_last c.self.inside.stop c.module.ensures.same c.if-is_some.ensures c.self.invariant c.reduce-stopped.new.stop _ _ _ c.args.self.now c.in-Some.stop c.count.result c.self.view_is
    c.count.ensures c.in-Some.is c.reduce-stopped.ensures.reduces
