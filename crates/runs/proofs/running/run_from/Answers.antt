use Rattle.std.proofs.Common.{sym, subst}
use Rattle.w_outside.specs.Outside.{Grew, Rose}
use Rattle.w_reduce.specs.Run.{Run}
use Rattle.w_machine.specs.Beginning.{Origin, Begins}
use Rattle.replies.specs.Origin.{trap_reply_of}
use Rattle.runs.proofs.Statistics.{leaves_with}
use Rattle.runs.proofs.running.run_from.Goals as goal

pub returns-clause-leaves : goal.returns-clause-leaves
returns-clause-leaves g c = λ p s t begins.
    let ran = c.run_machine-answer.ensures in
    leaves_with (trap_reply_of c.args.origin) (Run p s t c.args.steps) (Grew (g.O.Sink.held c.args.out.now) (g.O.Sink.held c.run_machine-answer.new.out))
    (Rose (g.O.Sink.faults c.args.out.now) (g.O.Sink.faults c.run_machine-answer.new.out)) c.args.stats c.run_machine-answer.result c.with_stats-replied.result
    (ran.leaves p s t begins)
    (λ asked. c.with_stats-replied.ensures.asked asked p s t c.args.steps (subst (λ (n : Origin). Begins n p s t) (sym ran.origin) begins) ran.after)
    c.with_stats-replied.ensures.unasked
