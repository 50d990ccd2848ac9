use Rattle.std.proofs.Common.{subst}
use Rattle.w_outside.specs.Outside.{Known, Rose}
use Rattle.replies.proofs.Refusals.{gives_as, gives_stop}
use Rattle.replies.specs.Answer.{AuditGives, AuditedGives, BytesGive, BytesRefusal, OnFile}
use Rattle.replies.specs.Stop.{Gives}
use Rattle.runs.specs.Delivery.{MayFail}
use Rattle.traces.proofs.AuditReplies.{file_refused, module_not_run, module_refused, module_run, rose_later}
use Rattle.traces.proofs.auditing.audit.Goals as goal

pub returns-in_err-checked-clause-gives : goal.returns-in_err-checked-clause-gives
returns-in_err-checked-clause-gives g c =
    let files = g.F.Inputs.file c.args.files.now in
    let known = files c.args.file.now in
    let failed = Rose (g.F.Inputs.faults c.args.files.now) (g.F.Inputs.faults c.judge_module.new.files) in
    let Due = BytesGive (AuditedGives c.args.steps (files c.args.trace.now)) in
    gives_stop {Due' = MayFail failed (OnFile known Due)} (file_refused BytesRefusal Due known failed (module_refused c.args.steps (files c.args.trace.now))) c.from_residual.result c.in_err-checked.field-0.0
    c.from_residual.ensures.1 c.in_err-checked.ensures.refused

pub returns-in_err-machine-clause-gives : goal.returns-in_err-machine-clause-gives
returns-in_err-machine-clause-gives g c =
    let files = g.F.Inputs.file c.args.files.now in
    let known = files c.args.file.now in
    let failed = Rose (g.F.Inputs.faults c.args.files.now) (g.F.Inputs.faults c.judge_module.new.files) in
    let judged = c.in_ok-checked.ensures in
    gives_stop {Due' = MayFail failed (OnFile known (BytesGive (AuditedGives c.args.steps (files c.args.trace.now))))}
    (module_not_run c.args.steps (files c.args.trace.now) c.in_ok-checked.checked known judged.read judged.within judged.valid failed) c.from_residual-in_err-machine.result c.in_err-machine.field-0.0
    c.from_residual-in_err-machine.ensures.1 c.in_err-machine.ensures.none

pub returns-clause-gives : goal.returns-clause-gives
returns-clause-gives g c =
    let files = g.F.Inputs.file c.args.files.now in
    let known = files c.args.file.now in
    let trace = files c.args.trace.now in
    let faults = g.F.Inputs.faults in
    let before = faults c.args.files.now in
    let between = faults c.judge_module.new.files in
    let now = faults c.audit_machine-answer.new.files in
    let judged = c.in_ok-checked.ensures in
    let b = c.in_ok-machine.ensures.ready in
    let gives = subst (λ (k : Known). Gives (MayFail (Rose between now) (OnFile k (AuditGives c.args.steps b.program b.store b.term))) c.audit_machine-answer.result) (judged.names c.args.trace.now)
    (c.audit_machine-answer.ensures.gives b.program b.store b.term b.begins) in
    gives_as {Due' = MayFail (Rose before now) (OnFile known (BytesGive (AuditedGives c.args.steps trace)))}
    (module_run c.args.steps trace c.in_ok-checked.checked known judged.read judged.within judged.valid c.in_ok-machine.machine b (Rose between now) (Rose before now) (rose_later before between now judged.later))
    c.audit_machine-answer.result gives
