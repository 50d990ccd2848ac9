use Rattle.std.proofs.Common.{◌∙◌, List, ℕ, Err, [], ap, refl}
use Rattle.replies.specs.Answer.{Reply}
use Rattle.replies.specs.Pieces.{joined}
use Rattle.replies.specs.Status.{code_of}
use Rattle.replies.proofs.TextInPieces.{joined-push}
use Rattle.replies.proofs.stop.with_err.Goals as goal

pub returns-in_ok-push_line-in-Ok : goal.returns-in_ok-push_line-in-Ok
returns-in_ok-push_line-in-Ok c = (
  c.in-Ok.output,
  c.in-Ok.is,
  ap (λ (l : List ℕ). let reply : Reply = record { out = joined c.in-Ok.output.pieces.items; err = l; status = 0 } in reply)
      (ap joined c.in_ok-push_line-in-Ok.ensures ∙ joined-push c.in-Ok.output.err.items c.args.line),
)

pub returns-in_ok-push_line-in-Err-Refused : goal.returns-in_ok-push_line-in-Err-Refused
returns-in_ok-push_line-in-Err-Refused c = (
  c.in-Err-Refused.refusal,
  c.in-Err-Refused.is ∙ ap Err c.in-Err-Refused.field-0-is,
  refl,
  ap (λ (l : List ℕ). let reply : Reply = record { out = []; err = l; status = code_of c.in-Err-Refused.refusal.status } in reply)
      (ap joined c.in_ok-push_line-in-Err-Refused.ensures ∙ joined-push c.in-Err-Refused.refusal.lines.items c.args.line),
)
