use Rattle.std.proofs.Common.{◌∙◌, refl, sym, subst}
use Rattle.w_segment.specs.Shape.{Shape}
use Rattle.w_plain.specs.Meets.{Applies}
use Rattle.w_plain.specs.Printing.{Printed}
use Rattle.w_configuration.proofs.PartsOfRuns.{known_sound, plain_applies}
use Rattle.w_configuration.proofs.PlainReductions.{stop_reduces}
use Rattle.w_configuration.proofs.reduction.plain_reduction.Goals as goal

pub plain-outcome-requires-clause-applies : goal.plain-outcome-requires-clause-applies
plain-outcome-requires-clause-applies g c =
    subst (λ (s : Shape). Applies c.args.program.source.now c.args.configuration.now.store s) (sym c.stack_mut.ensures.value) (plain_applies (known_sound c.args.program.known c.module-module.ensures.sound) c.requires.stands c.requires.plain)

pub returns-then-goes_on-clause-reduces : goal.returns-then-goes_on-clause-reduces
returns-then-goes_on-clause-reduces g c =
    stop_reduces (known_sound c.args.program.known c.module-module.ensures.sound) c.requires.plain c.plain-outcome.new.store c.plain-outcome.new.stack _ _ _ c.plain-outcome.result c.frames-frames.result c.args.stop.now (c.requires.none ∙ sym (c.goes_on.ensures c.if-goes_on.true)) c.frames-frames.ensures.count refl
    (subst (λ (s : Shape). Printed c.plain-outcome.result (g.O.Sink.held c.args.out.now) (g.O.Sink.held c.plain-outcome.new.out) c.args.program.source.now c.args.configuration.now.store s c.plain-outcome.new.store c.plain-outcome.new.stack)
    c.stack_mut.ensures.value c.plain-outcome.ensures.step)

pub returns-clause-reduces : goal.returns-clause-reduces
returns-clause-reduces g c =
    stop_reduces (known_sound c.args.program.known c.module-module.ensures.sound) c.requires.plain c.plain-outcome.new.store c.plain-outcome.new.stack _ _ _ c.plain-outcome.result c.frames-frames.result c.set_stop.new.stop (c.set_stop.ensures.stop ∙ c.stop_of.ensures) c.frames-frames.ensures.count refl
    (subst (λ (s : Shape). Printed c.plain-outcome.result (g.O.Sink.held c.args.out.now) (g.O.Sink.held c.plain-outcome.new.out) c.args.program.source.now c.args.configuration.now.store s c.plain-outcome.new.store c.plain-outcome.new.stack)
    c.stack_mut.ensures.value c.plain-outcome.ensures.step)
