use Rattle.std.proofs.Common.{ap}
use Rattle.fronts.specs.Fronts.{Taken}
use Rattle.replies.specs.Answer.{ActionGives, OnBytes}
use Rattle.handing.proofs.HandedReplies.{handed, none_rose}
use Rattle.handing.proofs.handing.hand_answer.Goals as goal

pub returns : goal.returns
returns c =
    handed (OnBytes (ActionGives c.args.action) c.args.bytes.now) _ _ c.command_on_bytes-status.new.out.text c.command_on_bytes-status.new.err.text
    (ap (λ (t : Taken). t.text) c.new-written.ensures) (ap (λ (t : Taken). t.text) c.new-told.ensures) _ _
    c.command_on_bytes-status.result c.hand_over.result (λ e. none_rose (c.command_on_bytes-status.ensures.write_fault e)) c.command_on_bytes-status.ensures.answered c.hand_over.ensures
