use Rattle.w_trace.specs.Once.{IsUnsoundAt}
use Rattle.replies.specs.Answer.{unsound}
use Rattle.std.proofs.Common.{◌≡◌, ℕ}
use Rattle.replies.proofs.Refusals.{refuses_as}
use Rattle.traces.proofs.auditing.check_once.Goals as goal

pub returns-in-Err-Unsound-clause-refused : goal.returns-in-Err-Unsound-clause-refused
returns-in-Err-Unsound-clause-refused c =
    let at = c.in-Err-Unsound in
    refuses_as {Due' = λ reply. (l : ℕ) × IsUnsoundAt c.args.events.now l × (reply ≡ unsound l)} (λ r h. (at.number, at.ensures.err at.number at.field-0-is, h)) c.unsound_refusal.result c.unsound_refusal.ensures
