use Rattle.w_outside.specs.Outside.{Rose}
use Rattle.replies.proofs.Refusals.{gives_as, gives_stop}
use Rattle.replies.specs.Answer.{AuditGives, OnFile}
use Rattle.traces.specs.Auditing.{TraceRefusal}
use Rattle.runs.specs.Delivery.{MayFail}
use Rattle.traces.proofs.AuditReplies.{file_refused, trace_compared, trace_refused}
use Rattle.traces.proofs.auditing.audit_machine.Goals as goal

pub returns-in_err-trace-clause-gives : goal.returns-in_err-trace-clause-gives
returns-in_err-trace-clause-gives g c = λ p s t begins.
    let known = g.F.Inputs.file c.args.files.now c.args.name.now in
    let failed = Rose (g.F.Inputs.faults c.args.files.now) (g.F.Inputs.faults c.read_trace.new.files) in
    gives_stop {Due' = MayFail failed (OnFile known (AuditGives c.args.steps p s t))}
    (file_refused TraceRefusal (AuditGives c.args.steps p s t) known failed (trace_refused p s t c.args.steps)) c.from_residual.result c.in_err-trace.field-0.0 c.from_residual.ensures.1 c.in_err-trace.ensures.refused

pub returns-clause-gives : goal.returns-clause-gives
returns-clause-gives g c = λ p s t begins.
    let known = g.F.Inputs.file c.args.files.now c.args.name.now in
    let failed = Rose (g.F.Inputs.faults c.args.files.now) (g.F.Inputs.faults c.read_trace.new.files) in
    gives_as {Due' = MayFail failed (OnFile known (AuditGives c.args.steps p s t))}
    (trace_compared p s t c.args.steps c.in_ok-trace.trace known failed c.in_ok-trace.ensures.read) c.compare-answer.result (c.compare-answer.ensures p s t begins)
