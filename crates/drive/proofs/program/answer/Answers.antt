use Rattle.std.proofs.Common.{◌∙◌, refl, ap, map, subst, ℕ, List}
use Rattle.std.specs.Borrow.{Bor}
use Rattle.std.specs.Prelude.{string_bytes}
use Rattle.w_outside.specs.Outside.{Grew, Rose}
use Rattle.words.specs.declared.request.Takes.{Takes}
use Rattle.words.specs.Line.{line_of}
use Rattle.words.specs.Request.{asked_by}
use Rattle.replies.specs.Answer.{Answer, AuditedGives, BytesGive, NamesGive, OnFile}
use Rattle.intake.specs.Intake.{IsInputOf}
use Rattle.runs.specs.Leaving.{Leaves}
use Rattle.drive.specs.Linking.{names_of}
use Rattle.runs.specs.Delivery.{MayFail}
use Rattle.drive.proofs.FileReplies.{unread, acted, audited_file, named, generated_run}
use Rattle.replies.proofs.Refusals.{refuses_as}
use Rattle.runs.proofs.Replies.{all_left, stop_left, leaves_as}
use Rattle.drive.proofs.program.answer.Goals as goal

pub returns-in_err-input-in-Ok-OnFile-clause-leaves : goal.returns-in_err-input-in-Ok-OnFile-clause-leaves
returns-in_err-input-in-Ok-OnFile-clause-leaves g c =
    let request = c.in-Ok-OnFile in
    let failed = Rose (g.F.Inputs.faults c.args.files.now) (g.F.Inputs.faults c.open.new.files) in
    stop_left (MayFail failed (Answer (line_of (map string_bytes c.args.words.now)) (g.F.Inputs.file c.args.files.now))) (g.O.Sink.held c.args.out.now)
    (Rose (g.O.Sink.faults c.args.out.now) (g.O.Sink.faults c.args.out.now)) c.from_residual.result c.in_err-input-in-Ok-OnFile.field-0.0 c.from_residual.ensures.1
    (refuses_as (unread (line_of (map string_bytes c.args.words.now)) request.file.now request.action (g.F.Inputs.file c.args.files.now) failed (request.ensures.asks ∙ ap asked_by request.field-0-is))
    c.in_err-input-in-Ok-OnFile.field-0.0 c.in_err-input-in-Ok-OnFile.ensures.refused)

pub returns-in_ok-input-in-Ok-OnFile-clause-leaves : goal.returns-in_ok-input-in-Ok-OnFile-clause-leaves
returns-in_ok-input-in-Ok-OnFile-clause-leaves g c =
    let request = c.in-Ok-OnFile in
    let failed = Rose (g.F.Inputs.faults c.args.files.now) (g.F.Inputs.faults c.open.new.files) in
    let read = c.in_ok-input-in-Ok-OnFile.ensures.bytes in
    leaves_as
    (acted (line_of (map string_bytes c.args.words.now)) request.file.now request.action (g.F.Inputs.file c.args.files.now) failed (request.ensures.asks ∙ ap asked_by request.field-0-is) read.0 read.0 refl read.1 read.2)
    (Grew (g.O.Sink.held c.args.out.now) (g.O.Sink.held c.act.new.out)) (Rose (g.O.Sink.faults c.args.out.now) (g.O.Sink.faults c.act.new.out)) c.act.result (c.act.ensures.leaves read.0 (subst (λ (t : Takes). IsInputOf t c.in_ok-input-in-Ok-OnFile.input read.0) c.takes.ensures read.3))

pub returns-in-Ok-OnFiles-clause-leaves : goal.returns-in-Ok-OnFiles-clause-leaves
returns-in-Ok-OnFiles-clause-leaves g c =
    let request = c.in-Ok-OnFiles in
    let files = g.F.Inputs.file c.args.files.now in
    let failed = Rose (g.F.Inputs.faults c.args.files.now) (g.F.Inputs.faults c.run_files.new.files) in
    let grew = Grew (g.O.Sink.held c.args.out.now) (g.O.Sink.held c.run_files.new.out) in
    let rose = Rose (g.O.Sink.faults c.args.out.now) (g.O.Sink.faults c.run_files.new.out) in
    leaves_as (named (line_of (map string_bytes c.args.words.now)) (names_of request.names.items) request.steps request.stats files failed (request.ensures.asks ∙ ap asked_by request.field-0-is))
    grew rose c.run_files.result
    (subst (λ (names : List (Bor (List ℕ))). Leaves (MayFail failed (NamesGive request.steps request.stats (names_of names) files)) c.run_files.result grew rose) c.as_slice.ensures.value c.run_files.ensures.leaves)

pub returns-in-Ok-Audited-clause-leaves : goal.returns-in-Ok-Audited-clause-leaves
returns-in-Ok-Audited-clause-leaves g c =
    let request = c.in-Ok-Audited in
    let files = g.F.Inputs.file c.args.files.now in
    let failed = Rose (g.F.Inputs.faults c.args.files.now) (g.F.Inputs.faults c.audit.new.files) in
    let held = g.O.Sink.held c.args.out.now in
    let rose = Rose (g.O.Sink.faults c.args.out.now) (g.O.Sink.faults c.args.out.now) in
    leaves_as (audited_file (line_of (map string_bytes c.args.words.now)) request.file.now request.trace.now request.steps files failed (request.ensures.asks ∙ ap asked_by request.field-0-is))
    (Grew held held) rose c.audit.result
    (all_left (MayFail failed (OnFile (files request.file.now) (BytesGive (AuditedGives request.steps (files request.trace.now))))) held rose c.audit.result c.audit.ensures.gives)

pub returns-in-Ok-Generated-clause-leaves : goal.returns-in-Ok-Generated-clause-leaves
returns-in-Ok-Generated-clause-leaves g c =
    let request = c.in-Ok-Generated in
    let failed = Rose (g.F.Inputs.faults c.args.files.now) (g.F.Inputs.faults c.args.files.now) in
    leaves_as (generated_run (line_of (map string_bytes c.args.words.now)) request.number (g.F.Inputs.file c.args.files.now) failed (request.ensures.asks ∙ ap asked_by request.field-0-is))
    (Grew (g.O.Sink.held c.args.out.now) (g.O.Sink.held c.run_generated.new.out)) (Rose (g.O.Sink.faults c.args.out.now) (g.O.Sink.faults c.run_generated.new.out))
    c.run_generated.result c.run_generated.ensures.leaves
