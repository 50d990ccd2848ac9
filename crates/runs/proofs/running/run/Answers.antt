use Rattle.w_outside.specs.Outside.{Grew, Rose}
use Rattle.replies.specs.Answer.{RunGives}
use Rattle.replies.specs.Origin.{trap_reply_of}
use Rattle.replies.proofs.Refusals.{refuses_as}
use Rattle.runs.proofs.Replies.{leaves_as, stop_left}
use Rattle.runs.proofs.Runs.{run_gives, no_run_gives}
use Rattle.runs.proofs.running.run.Goals as goal

pub returns-in_err-machine-clause-leaves : goal.returns-in_err-machine-clause-leaves
returns-in_err-machine-clause-leaves g c =
    stop_left (RunGives (trap_reply_of c.args.origin) c.args.steps c.args.stats c.args.checked) (g.O.Sink.held c.args.out.now) (Rose (g.O.Sink.faults c.args.out.now) (g.O.Sink.faults c.args.out.now))
    c.from_residual.result c.in_err-machine.field-0.0 c.from_residual.ensures.1
    (refuses_as (no_run_gives (trap_reply_of c.args.origin) _ c.args.checked) c.in_err-machine.field-0.0 c.in_err-machine.ensures.none)

pub returns-clause-leaves : goal.returns-clause-leaves
returns-clause-leaves g c =
    let run = c.in_ok-machine.ensures.ready in
    leaves_as (run_gives (trap_reply_of c.args.origin) _ c.args.checked c.in_ok-machine.machine run)
    (Grew (g.O.Sink.held c.args.out.now) (g.O.Sink.held c.run_from.new.out)) (Rose (g.O.Sink.faults c.args.out.now) (g.O.Sink.faults c.run_from.new.out)) c.run_from.result
    (c.run_from.ensures.leaves run.program run.store run.term run.begins)
