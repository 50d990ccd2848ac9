use Rattle.std.proofs.Common.{ap}
use Rattle.replies.specs.Status.{code_of}
use Rattle.replies.proofs.Refusals.{same_refusal}
use Rattle.replies.proofs.stop.in_file.Goals as goal

pub returns-in-Ok : goal.returns-in-Ok
returns-in-Ok c = (c.in-Refused.refusal, c.in-Refused.is, c.in-Ok.ensures.status, same_refusal _ _ _ _ c.in-Ok.ensures.lines (ap code_of c.in-Ok.ensures.status))
