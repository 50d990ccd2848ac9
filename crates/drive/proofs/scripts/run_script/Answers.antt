use Rattle.std.proofs.Common.{rules, ◌≢◌, false, inr}
use Rattle.w_outside.specs.Outside.{Rose}
use Rattle.s_judge.specs.declared.fault.ScriptFault.TheVariants.{OutOfMemory}
use Rattle.replies.specs.Answer.{Compiled, RunGives, ScriptGives, faulted}
use Rattle.replies.proofs.Refusals.{refuses_as}
use Rattle.runs.proofs.Replies.{refusal_left}
use Rattle.drive.proofs.scripts.run_script.Goals as goal

pub returns-in-Err-clause-leaves : goal.returns-in-Err-clause-leaves
returns-in-Err-clause-leaves g c =
    let not_memory : c.in-Err.fault ≢ OutOfMemory = search rules in
    let has = c.in-Err.ensures.err not_memory in
    refusal_left (ScriptGives (λ p. Compiled (RunGives (faulted p) c.args.steps false) p) c.args.bytes.now) (g.O.Sink.held c.args.out.now)
    (Rose (g.O.Sink.faults c.args.out.now) (g.O.Sink.faults c.args.out.now)) c.script_refusal.result
    (refuses_as {Due' = ScriptGives (λ p. Compiled (RunGives (faulted p) c.args.steps false) p) c.args.bytes.now} (λ r h. inr (c.in-Err.fault, has, h))
    c.script_refusal.result c.script_refusal.ensures)
