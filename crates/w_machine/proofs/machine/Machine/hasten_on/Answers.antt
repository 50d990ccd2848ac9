use Rattle.std.proofs.Common.{is_some, sym, ap, subst, ◌∙◌, arith}
use Rattle.w_syntax.specs.declared.module.Module.{Module}
use Rattle.w_configuration.specs.CommonReductions.{HastensParts}
use Rattle.w_machine.specs.Position.{Position}
use Rattle.w_machine.proofs.Machines.{machine_few_more, machine_stands}
use Rattle.w_machine.proofs.ManyReductions.{few_taken, fewer_taken, hastened_long, hastened_past, hastened_within, leaves_behind, reached_still, reached_stopped, reached_turned, stops_behind}
use Rattle.w_machine.proofs.machine.Machine.hasten_on.Goals as goal

pub hasten-done-requires : goal.hasten-done-requires
hasten-done-requires c =
    let nothing = ap (λ (q : Position). q.stop) c.self.view_is ∙ c.requires.none in
    let count = ap (λ (q : Position). q.taken) c.self.view_is in
    record {
      stands = machine_stands c.self.inside.stop c.module.ensures.same (sym (ap is_some nothing)) c.self.invariant c.classes-classes.result.now c.classes-classes.ensures;
      made = machine_few_more c.self.inside.stop c.module.ensures.same (sym (ap is_some nothing)) c.self.invariant c.args.end (omega (arith, count, c.requires.before)) c.requires.few;
    }

pub invariant_of-self : goal.invariant_of-self
invariant_of-self c =
    let nothing = ap (λ (q : Position). q.stop) c.self.view_is ∙ c.requires.none in
    let count = ap (λ (q : Position). q.taken) c.self.view_is in
    let done = c.hasten-done.result in
    let parts = subst (λ (m : Module). HastensParts c.args.quiet done m c.self.inside.configuration c.hasten-done.new.configuration) c.module.ensures.same c.hasten-done.ensures.hastens in
    let few = fewer_taken done.then done.taken _ c.in-Stopped.stop c.in-Stopped.made c.in-Stopped.live c.in-Stopped.is c.hasten-done.ensures.most in
    reached_stopped c.classes-classes.result.now c.classes-classes.ensures c.module.ensures.sound c.self.inside.stop nothing c.self.invariant c.in-Stopped.stop c.count.result c.in-Stopped.made c.in-Stopped.live c.count.ensures
    (omega (arith, few, count, c.requires.before, c.requires.few)) (stops_behind done parts c.in-Stopped.stop c.in-Stopped.made c.in-Stopped.live c.in-Stopped.is)

pub turn-requires : goal.turn-requires
turn-requires c =
    let nothing = ap (λ (q : Position). q.stop) c.self.view_is ∙ c.requires.none in
    let count = ap (λ (q : Position). q.taken) c.self.view_is in
    let done = c.hasten-done.result in
    let parts = subst (λ (m : Module). HastensParts c.args.quiet done m c.self.inside.configuration c.hasten-done.new.configuration) c.module.ensures.same c.hasten-done.ensures.hastens in
    let few = few_taken done.then done.taken _ c.in-On.is c.hasten-done.ensures.most in
    record {
      some = hastened_long c.classes-classes.result.now c.classes-classes.ensures c.module.ensures.sound c.self.inside.stop nothing c.self.invariant (omega (arith, c.if-done-gt0.true)) (omega (arith, few, count, c.requires.before, c.requires.few)) (leaves_behind done parts c.in-On.is);
      fresh = c.self.invariant.fresh;
    }

pub invariant_of-self-then-done-gt0 : goal.invariant_of-self-then-done-gt0
invariant_of-self-then-done-gt0 c =
    let nothing = ap (λ (q : Position). q.stop) c.self.view_is ∙ c.requires.none in
    let count = ap (λ (q : Position). q.taken) c.self.view_is in
    let done = c.hasten-done.result in
    let parts = subst (λ (m : Module). HastensParts c.args.quiet done m c.self.inside.configuration c.hasten-done.new.configuration) c.module.ensures.same c.hasten-done.ensures.hastens in
    let few = few_taken done.then done.taken _ c.in-On.is c.hasten-done.ensures.most in
    reached_turned c.classes-classes.result.now c.classes-classes.ensures c.module.ensures.sound c.self.inside.stop nothing c.self.invariant c.hasten-done.new.configuration c.turn.new.chain
    c.turn.ensures.stays c.turn.ensures.turns (omega (arith, c.if-done-gt0.true)) (omega (arith, few, count, c.requires.before, c.requires.few)) (leaves_behind done parts c.in-On.is)

pub invariant_of-self-else-done-gt0 : goal.invariant_of-self-else-done-gt0
invariant_of-self-else-done-gt0 c =
    let nothing = ap (λ (q : Position). q.stop) c.self.view_is ∙ c.requires.none in
    let count = ap (λ (q : Position). q.taken) c.self.view_is in
    let done = c.hasten-done.result in
    let parts = subst (λ (m : Module). HastensParts c.args.quiet done m c.self.inside.configuration c.hasten-done.new.configuration) c.module.ensures.same c.hasten-done.ensures.hastens in
    reached_still c.classes-classes.result.now c.classes-classes.ensures c.module.ensures.sound c.self.inside.stop nothing c.self.invariant (omega (arith, c.if-done-gt0.false)) (leaves_behind done parts c.in-On.is)

pub returns-in-Stopped : goal.returns-in-Stopped
returns-in-Stopped c =
    let nothing = ap (λ (q : Position). q.stop) c.self.view_is ∙ c.requires.none in
    let count = ap (λ (q : Position). q.taken) c.self.view_is in
    let done = c.hasten-done.result in
    let parts = subst (λ (m : Module). HastensParts c.args.quiet done m c.self.inside.configuration c.hasten-done.new.configuration) c.module.ensures.same c.hasten-done.ensures.hastens in
    let few = fewer_taken done.then done.taken _ c.in-Stopped.stop c.in-Stopped.made c.in-Stopped.live c.in-Stopped.is c.hasten-done.ensures.most in
    record {
      hastens = hastened_past c.classes-classes.result.now c.classes-classes.ensures c.module.ensures.sound c.self.inside.stop nothing c.self.invariant c.args.self.now c.self.view_is c.args.end c.in-Stopped.stop c.count.result c.in-Stopped.made c.in-Stopped.live c.count.ensures c.requires.few
          (omega (arith, few, count, c.requires.before)) (stops_behind done parts c.in-Stopped.stop c.in-Stopped.made c.in-Stopped.live c.in-Stopped.is);
    }

pub returns-then-done-gt0 : goal.returns-then-done-gt0
returns-then-done-gt0 c =
    let nothing = ap (λ (q : Position). q.stop) c.self.view_is ∙ c.requires.none in
    let count = ap (λ (q : Position). q.taken) c.self.view_is in
    let done = c.hasten-done.result in
    let parts = subst (λ (m : Module). HastensParts c.args.quiet done m c.self.inside.configuration c.hasten-done.new.configuration) c.module.ensures.same c.hasten-done.ensures.hastens in
    let few = few_taken done.then done.taken _ c.in-On.is c.hasten-done.ensures.most in
    record {
      hastens = hastened_within c.classes-classes.result.now c.classes-classes.ensures c.module.ensures.sound c.self.inside.stop nothing c.self.invariant c.args.self.now c.self.view_is c.args.end c.requires.few
          (omega (arith, few, count, c.requires.before)) (leaves_behind done parts c.in-On.is);
    }
