use Rattle.std.proofs.Common.{◌∙◌, false}
use Rattle.w_outside.specs.Outside.{Grew, Rose}
use Rattle.replies.specs.Answer.{Compiled, RunGives, faulted}
use Rattle.replies.proofs.Refusals.{refuses_as}
use Rattle.runs.proofs.Replies.{leaves_as, stop_left}
use Rattle.drive.proofs.ScriptRuns.{never_refused, run_given}
use Rattle.drive.proofs.scripts.run_checked.Goals as goal

pub returns-in_err-checked-clause-leaves : goal.returns-in_err-checked-clause-leaves
returns-in_err-checked-clause-leaves g c =
    let p = c.args.script.now in
    let made = c.in_ok-module in
    stop_left (Compiled (RunGives (faulted p) c.args.steps false) p) (g.O.Sink.held c.args.out.now) (Rose (g.O.Sink.faults c.args.out.now) (g.O.Sink.faults c.args.out.now))
    c.from_residual-in_err-checked.result c.in_err-checked.field-0.0 c.from_residual-in_err-checked.ensures.1
    (refuses_as {Due' = Compiled (RunGives (faulted p) c.args.steps false) p} (λ r h. absurd (never_refused p made.module c.script.ensures.good made.ensures.small made.ensures.module_of r h))
    c.in_err-checked.field-0.0 c.in_err-checked.ensures.refused)

pub returns-clause-leaves : goal.returns-clause-leaves
returns-clause-leaves g c =
    let p = c.args.script.now in
    let made = c.in_ok-module in
    leaves_as (run_given p c.script.result.now c.in_ok-checked.checked c.args.steps c.script.ensures.same (c.in_ok-checked.ensures.same ∙ made.ensures.module_of) made.ensures.small)
    (Grew (g.O.Sink.held c.args.out.now) (g.O.Sink.held c.run.new.out)) (Rose (g.O.Sink.faults c.args.out.now) (g.O.Sink.faults c.run.new.out)) c.run.result c.run.ensures.leaves
