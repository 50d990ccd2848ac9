use Rattle.std.proofs.Common.{◌≤◌, List, ℕ, inl, length, subst, arith}
use Rattle.w_outside.specs.Outside.{Grew, Rose}
use Rattle.words.specs.declared.request.Takes.{Takes}
use Rattle.replies.specs.Answer.{ActionGives, OnBytes, input_limit}
use Rattle.intake.specs.Intake.{IsInputOf}
use Rattle.runs.proofs.Replies.{leaves_as}
use Rattle.drive.proofs.in_memory.answer_to_bytes.Goals as goal

pub returns-clause-leaves : goal.returns-clause-leaves
returns-clause-leaves g c =
    let bytes = c.args.bytes.now in
    let short : length bytes ≤ input_limit = omega (arith, c.if-bytes-gt-INPUT_LIMIT.false) in
    leaves_as {Due' = OnBytes (ActionGives c.args.action) bytes} (λ r h. inl (short, h)) (Grew (g.O.Sink.held c.args.out.now) (g.O.Sink.held c.act.new.out))
    (Rose (g.O.Sink.faults c.args.out.now) (g.O.Sink.faults c.act.new.out)) c.act.result (c.act.ensures.leaves bytes (subst (λ (t : Takes). IsInputOf t c.in_ok-input.input bytes) c.takes.ensures c.in_ok-input.ensures))
