use Rattle.w_outside.specs.Outside.{Grew, holds}
use Rattle.replies.specs.Answer.{AuditedGives, BytesGive, OnBytes, Reply}
use Rattle.runs.proofs.Replies.{all_left, delivered}
use Rattle.handing.proofs.audits.respond.Goals as goal

pub returns : goal.returns
returns g c =
    let before = g.O.Sink.held c.args.out.now in
    let Due : Reply → Type 0 = OnBytes (BytesGive (AuditedGives c.args.steps (holds c.args.trace.now))) c.args.bytes.now in
    record {
      replies = delivered Due before before (g.O.Sink.held c.deliver.new.out) (Grew (g.E.Sink.held c.args.err.now) (g.E.Sink.held c.deliver.new.err)) {one = ⊥} (λ h. absurd h) (λ h. h)
          c.audit_bytes-answer.result c.deliver.result (all_left Due before ⊥ c.audit_bytes-answer.result c.audit_bytes-answer.ensures) c.deliver.ensures.delivers;
    }
